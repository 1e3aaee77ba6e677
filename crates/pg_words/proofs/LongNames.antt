-- Long names that are cut short, in words.
use Rattle.std.proofs.Common.{◌≡◌, ◌∙◌, ap, refl, sym, true, false, Bool, ◌∷◌, ◌++◌, Option, Some, None}
use Rattle.std.proofs.Common.{is_some, option_map}
use Rattle.std.specs.Borrow.{Bor}
use Rattle.std.specs.Prelude.{if◌then◌else◌, unwrap_or}
use Rattle.clap.specs.Lexer.{long_of, name_and_value}
use Rattle.clap.proofs.CutLemmas.{Lacks}
use Rattle.clap.proofs.LexerLemmas.{name_and_value-at, name_and_value-without}
use Rattle.pg_words.specs.Line.{Word, by_name, table}
use Rattle.pg_words.specs.Spelled.{full_name, full_or_same, full_word, names_begun, only_one}

pub full_exact : (name : Word) → is_some (by_name table name) ≡ true → name ≡ full_name table name
unfolding full_name
full_exact name is = sym (ap (λ (b : Bool). if b then name
    else unwrap_or (only_one (names_begun table name)) name) is)

text_or : (only : Option (Bor Word)) (name : Bor Word)
    → (unwrap_or only name).now ≡ unwrap_or (option_map (λ own. own.now) only) name.now
text_or None name = refl
text_or (Some own) name = refl

pub full_begun : (name : Bor Word) (only : Option (Bor Word)) → is_some (by_name table name.now) ≡ false
    → option_map (λ own. own.now) only ≡ only_one (names_begun table name.now)
    → (unwrap_or only name).now ≡ full_name table name.now
unfolding full_name
full_begun name only none begun =
    text_or only name ∙ (ap (λ (o : Option Word). unwrap_or o name.now) begun
    ∙ sym (ap (λ (b : Bool). if b then name.now
    else unwrap_or (only_one (names_begun table name.now)) name.now) none))

pub cut_at : (text name value : Word) → text ≡ name ++ 61 ∷ value → Lacks 61 name
    → name_and_value text ≡ (name, Some value)
cut_at text name value is lacks = ap name_and_value is ∙ name_and_value-at name value lacks

pub cut_nowhere : (text : Word) → Lacks 61 text → name_and_value text ≡ (text, None)
cut_nowhere text lacks = name_and_value-without text lacks

pub word_in_full : (w : Word) (text : Option (Bor Word)) (full : Word)
    → option_map (λ t. name_and_value t.now) text ≡ long_of w
    → full ≡ full_or_same table (option_map (λ t. name_and_value t.now) text) w → full ≡ full_word table w
word_in_full w text full behind is = is ∙ ap (λ (o : Option (Word × Option Word)). full_or_same table o w) behind
