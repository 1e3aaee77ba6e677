use Rattle.std.proofs.Common.{◌≡◌, ◌∙◌, ap, length, subst, sym}
use Rattle.std.specs.Arc.{arc_value}
use Rattle.pg_match.specs.StateSets.{HaveRoom}
use Rattle.pg_match.specs.Views.{nfa, buffers}
use Rattle.pg_match.proofs.AnchoredLemmas.{blank_anchored}
use Rattle.pg_match.proofs.CacheLemmas.{new_caches}
use Rattle.pg_match.proofs.machine.Scratch.prepare.Goals as goal

pub invariant_of-result : goal.invariant_of-result
invariant_of-result g c =
    let states = c.deref-states.result.now.states in
    let m = nfa (arc_value c.in_ok-automaton.automaton) in
    let same : length states.items ≡ length m.states =
    ap (λ a. length (nfa a).states) (c.deref-states.ensures ∙ sym c.in_ok-automaton.ensures) in
    let room = c.in_ok-sets.ensures.room in
    let cache = new_caches c.new-2.result m c.new-2.ensures in (
      subst (HaveRoom (buffers c.in_ok-sets.sets)) (c.len.ensures ∙ states.ok.0 ∙ same) room,
      rw c.ok-cache.ensures.value cache,
      blank_anchored c.anchored_cache-anchored.result m c.anchored_cache-anchored.ensures,
      tt,
    )
