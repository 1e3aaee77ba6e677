-- A parse gives what was asked, or refuses it.
use Rattle.std.proofs.Common.{◌≡◌, ◌∙◌, ap, refl, sym, subst, true, false, true≢false, Bool, List, [], ◌∷◌, Option}
use Rattle.std.proofs.Common.{Some, None, ap₂, length, ℕ, ◌+◌, Result, Ok}
use Rattle.std.proofs.Common.{All, IsUtf8, map, arith, zero, suc, codes, ⊎_elim, String}
use Rattle.std.proofs.Common.{Global}
use Rattle.std.specs.Prelude.{unwrap_or}
use Rattle.std.specs.Result.{result_err}
use Rattle.std.specs.String.{string_bytes}
use Rattle.std.proofs.lemmas.List.{length-map}
use Rattle.std.proofs.lemmas.Str.{IsUtf8-string_bytes}
use Rattle.clap.specs.Faults.{fault_of}
use Rattle.clap.specs.Simple.{matches_of}
use Rattle.clap.specs.Walk.{all_of, one_of, rows_of}
use Rattle.clap.specs.declared.parser.matches.Found.{Found as Matches}
use Rattle.clap.proofs.WalkLemmas.{one_text-rows, raw_values-rows}
use Rattle.pg_words.specs.App.{our_app}
use Rattle.pg_words.specs.Asked.{asked_of, pace_of}
use Rattle.pg_words.specs.Asks.{AsksSearch, asked_in, asks_of, fault_in, files_in, options_in, pace_in, search_or}
use Rattle.pg_words.specs.Asks.{texts_in}
use Rattle.pg_words.specs.Found.{AreSources, Flags, IsOfUses}
use Rattle.pg_words.specs.Gives.{IsWordsFault, IsRefusal}
use Rattle.pg_words.specs.Joined.{asked, complete}
use Rattle.pg_words.specs.Line.{Word, Use, Uses, is_given, table, values_of}
use Rattle.pg_words.specs.Usage.{usage_fault}
use Rattle.pg_words.specs.declared.operands.Sources.{Sources}
use Rattle.pg_words.specs.declared.options.Options.{Options}
use Rattle.pg_words.specs.declared.request.Request.{Request}
use Rattle.pg_words.specs.declared.usage.UsageFault.{UsageFault}
use Rattle.pg_words.specs.declared.words.WordsFault.{WordsFault}
use Rattle.pg_words.specs.declared.words.WordsFault.TheVariants as fault
use Rattle.pg_words.proofs.Found.{IsRow, ascii_letters, end_rows, flag_named, letter_ids, name_ids, number_named}
use Rattle.pg_words.proofs.Found.{operands_named, texts_named, value_fits}
use Rattle.pg_words.proofs.Level.{Reads, reads}
use Rattle.pg_words.proofs.Ours.{all_rows}
use Rattle.pg_words.proofs.Rules.{ours_by_id}
use Rattle.pg_words.proofs.Uses.{EachOf, EachUse, asked_each}
use Rattle.pg_words.proofs.Walks.{has_fault}

pub utf8_strings : (parts : List (String Global)) → All IsUtf8 (map string_bytes parts)
utf8_strings [] i d less = absurd (omega (arith, less))
utf8_strings (part ∷ parts) zero d less = IsUtf8-string_bytes part
utf8_strings (part ∷ parts) (suc i) d less = utf8_strings parts i d (omega (arith, less))

ours : (ws : List Word) → All IsUtf8 ws → complete table ws ≡ true
    → Reads (asked table ws) (fault_of our_app ws) (matches_of our_app ws) table
ours ws utf8 whole =
    reads table ours_by_id (ascii_letters table table all_rows) (letter_ids table all_rows)
    (name_ids table all_rows) ws utf8 whole

-- what was found, by the rows
found_rows : (us : List Use) (f : Matches) → EachUse (IsRow table) us → rows_of f ≡ end_rows table us → IsOfUses us f
found_rows us f uses is = record {
  flag = λ name e. subst (λ (o : Option Word). Flags o (is_given name us))
      (ap (one_of name) (sym is) ∙ sym (one_text-rows f name)) (flag_named table all_rows us uses name e);
  number = λ name low high e. one_text-rows f name
      ∙ (ap (one_of name) is ∙ number_named table all_rows us uses name low high e);
  fit = λ name v e t last. value_fits table all_rows us uses name v e t last;
  texts = λ name e. ap (λ (o : Option (List Word)). unwrap_or o []) (raw_values-rows f name ∙ ap (all_of name) is)
      ∙ texts_named table all_rows us uses name e;
  operands = ap (λ (o : Option (List Word)). unwrap_or o [])
      (raw_values-rows f (codes "operands") ∙ ap (all_of (codes "operands")) is)
      ∙ operands_named table all_rows us uses;
}

-- a parse that found no fault gives what was asked
pub gives : (ws : List Word) (f : Matches) → All IsUtf8 ws → complete table ws ≡ true → fault_of our_app ws ≡ []
    → rows_of f ≡ matches_of our_app ws → (us : List Use) × (asked table ws ≡ Some us) × IsOfUses us f
gives ws f utf8 whole none rows = go (asked table ws) refl (ours ws utf8 whole)
    (asked_each (IsRow table) table ws all_rows)
  where
    go : (U : Uses) → asked table ws ≡ U → Reads U (fault_of our_app ws) (matches_of our_app ws) table
        → EachOf (IsRow table) U
        → (us : List Use) × (asked table ws ≡ Some us) × IsOfUses us f
    go None is h each = absurd (true≢false (sym h ∙ ap has_fault none))
    go (Some us) is h each = (us, is, found_rows us f each (rows ∙ h.1))

-- and one that found a fault was refused
pub refuses : (ws : List Word) → All IsUtf8 ws → complete table ws ≡ true → (fault_of our_app ws ≡ [] → ⊥)
    → asked table ws ≡ None
refuses ws utf8 whole some = go (asked table ws) (ours ws utf8 whole)
  where
    go : (U : Uses) → Reads U (fault_of our_app ws) (matches_of our_app ws) table → U ≡ None
    go None h = refl
    go (Some us) h = absurd (some h.0)

pub refused_words : (U : Uses) (told : WordsFault) → IsRefusal told → U ≡ None → IsWordsFault (asks_of U) told
refused_words U (fault.Refused text) is none = ap asks_of none
refused_words U (fault.Usage usage) is none = absurd is
refused_words U fault.OutOfMemory is none = tt

pub out_of_memory : (U : Uses) (told : WordsFault) → told ≡ fault.OutOfMemory → IsWordsFault (asks_of U) told
out_of_memory U told is = subst (IsWordsFault (asks_of U)) (sym is) tt

-- what a flag's getter answers
pub flag_is : (o : Option Word) (b given : Bool) → (o ≡ None → b ≡ false) → (o ≡ Some (codes "true") → b ≡ true)
    → (o ≡ Some (codes "false") → b ≡ false) → Flags o given → b ≡ given
flag_is o b true none on off h = on h
flag_is o b false none on off h = ⊎_elim none off h

-- ---- a search

pub no_fault : (us : List Use) (options : Options) (sources : Sources) (checked : Result (Unit {0}) UsageFault)
    → options ≡ options_in us → AreSources us sources → checked ≡ Ok tt
    → result_err checked ≡ usage_fault options (length sources.texts.now + length sources.pattern_files.now)
    (length sources.files.now)
    → fault_in us ≡ None
no_fault us options sources checked same are passed exact =
    let texts : length sources.texts.now ≡ length (texts_in us) =
    sym (length-map sources.texts.now (λ text. text.now)) ∙ ap length are.texts in
    let patterns : length sources.pattern_files.now ≡ length (values_of (codes "file") us) =
    sym (length-map sources.pattern_files.now (λ path. path.now)) ∙ ap length are.pattern_files in
    let files : length sources.files.now ≡ length (files_in us) =
    sym (length-map sources.files.now (λ path. path.now)) ∙ ap length are.files in
    sym (ap (λ (o : Options). usage_fault o (length sources.texts.now + length sources.pattern_files.now)
    (length sources.files.now)) same
    ∙ (ap₂ (λ (n m : ℕ). usage_fault (options_in us) (n + m) (length sources.files.now)) texts patterns
    ∙ ap (λ (n : ℕ). usage_fault (options_in us) (length (texts_in us) + length (values_of (codes "file") us)) n)
    files))
    ∙ (sym exact ∙ ap result_err passed)

pub search_is : (us : List Use) (request : Request) → fault_in us ≡ None
    → (asked_of request ≡ asked_in us) × (pace_of request ≡ pace_in us)
    → search_or us (fault_in us) ≡ AsksSearch (asked_of request) (pace_of request)
search_is us request none same = ap (search_or us) none ∙ sym (ap₂ AsksSearch same.0 same.1)
