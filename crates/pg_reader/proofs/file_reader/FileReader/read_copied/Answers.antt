use Rattle.std.proofs.Common.{◌≡◌, ◌∙◌, ℕ, List, ◌++◌, true, false, length, take, ap, sym, refl}
use Rattle.std.proofs.Math.Seq.{take-append_seam}
use Rattle.pg_files.specs.Given.{gave_bytes}
use Rattle.pg_reader.proofs.GivenLemmas.{read_some, read_none, read_grows}
use Rattle.pg_reader.proofs.ReadLemmas.{read_stopped, read_cut, read_refused, refused_whole}
use Rattle.pg_reader.proofs.file_reader.FileReader.read_copied.Goals as goal

-- a text that fills a buffer is all that the buffer holds
written_whole : (len : ℕ) (text rest : List ℕ) → length text ≡ len → take len (text ++ rest) ≡ text
written_whole len text rest fills = ap (λ n. take n (text ++ rest)) (sym fills) ∙ take-append_seam text rest

pub returns-in_default-clause-reads : goal.returns-in_default-clause-reads
returns-in_default-clause-reads g c =
    let e = c.in_default.ensures in
    read_stopped {past = g.F.Files.past} {list = g.F.Files.list} c.requires.reading.more e.done e.same_list true e.given
    refl (λ end longest. refl) (λ fed stands. stands)

pub returns-then-len-eq0-clause-reads : goal.returns-then-len-eq0-clause-reads
returns-then-len-eq0-clause-reads g c =
    let e = c.in-Ok.ensures in
    let given = (g.F.Files.past c.args.files.now).given in
    read_stopped {past = g.F.Files.past} {list = g.F.Files.list} c.requires.reading.more e.done e.same_list false
    (e.given.1 ∙ read_none c.read.new.into c.in-Ok.len given c.if-len-eq0.true) refl (λ end longest. refl)
    (λ fed stands. stands)

pub returns-in-Err-clause-reads : goal.returns-in-Err-clause-reads
returns-in-Err-clause-reads g c =
    let e = c.in-Ok.ensures in
    let given = (g.F.Files.past c.args.files.now).given in
    let whole = written_whole _ c.read.new.into _ (e.size ∙ c.as_mut_slice.ensures.len) in
    read_refused {past = g.F.Files.past} {list = g.F.Files.list} c.requires.reading.more e.done e.same_list
    (take c.in-Ok.len c.deref.result.now) c.in-Err.why
    (e.given.1 ∙ (read_some c.read.new.into c.in-Ok.len given c.if-len-eq0.false
    ∙ ap (λ xs. gave_bytes (take c.in-Ok.len xs) given) (sym (c.deref.ensures.value ∙ whole)))) refl
    c.in-Err.ensures

pub returns-in-Err-clause-refused : goal.returns-in-Err-clause-refused
returns-in-Err-clause-refused g c =
    let e = c.in-Ok.ensures in
    let given = (g.F.Files.past c.args.files.now).given in
    let whole = written_whole _ c.read.new.into _ (e.size ∙ c.as_mut_slice.ensures.len) in
    refused_whole c.requires.reading.more (take c.in-Ok.len c.deref.result.now) c.in-Err.why
    (e.given.1 ∙ (read_some c.read.new.into c.in-Ok.len given c.if-len-eq0.false
    ∙ ap (λ xs. gave_bytes (take c.in-Ok.len xs) given) (sym (c.deref.ensures.value ∙ whole)))) refl
    c.in-Err.ensures

pub returns-in_default-feed-clause-reads : goal.returns-in_default-feed-clause-reads
returns-in_default-feed-clause-reads g c =
    let e = c.in-Ok.ensures in
    let given = (g.F.Files.past c.args.files.now).given in
    let whole = written_whole _ c.read.new.into _ (e.size ∙ c.as_mut_slice.ensures.len) in
    read_cut {past = g.F.Files.past} {list = g.F.Files.list} c.requires.reading.more e.done e.same_list
    (take c.in-Ok.len c.deref.result.now)
    (e.given.1 ∙ (read_some c.read.new.into c.in-Ok.len given c.if-len-eq0.false
    ∙ ap (λ xs. gave_bytes (take c.in-Ok.len xs) given) (sym (c.deref.ensures.value ∙ whole)))) c.requires.reading.more
    (λ fed stands. c.in_default-feed.ensures.ok fed stands)

pub returns-in_default-feed-clause-goes : goal.returns-in_default-feed-clause-goes
returns-in_default-feed-clause-goes g c = λ more.
    let e = c.in-Ok.ensures in
    read_grows c.read.new.into c.in-Ok.len c.requires.reading.fed.2.newest e.given.0 c.if-len-eq0.false e.given.1
