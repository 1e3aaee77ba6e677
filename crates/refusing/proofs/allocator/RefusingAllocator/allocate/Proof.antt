-- It counts the request, and answers `Err` or what the allocator behind it answers.
use Rattle.refusing.proofs.Steps.{[], ◌∷◌, refl, ap, w64, ◌≡◌, ℕ, ◌+◌, Bool, true, false, List, Ok, Err, proved, leaves}
use Rattle.refusing.proofs.Steps.{Al, α, seen, token, Answer, answer_val, Answer-typed, Answer-Ok, Answer-err, Takes}
use Rattle.refusing.proofs.Steps.{at_takes, Answered, Takes-goes, Takes-gives, answers, Args, a_type, dnil, dcons, Val}
use Rattle.refusing.proofs.Steps.{vint, vptr, inst_fn, id⊢, ftrue, fsep, froom, flft, size, align, capped, up, ◌⊑◌}
use Rattle.refusing.proofs.Steps.{⊑_trans, fact, tables, ‵, raw, ◌⊛◌, some, later, prop, at_ret, Sq, ◌$◌, ◌∵◌, !, qed}
use Rattle.refusing.proofs.Steps.{done, move, keep, use0, use1, use2, split, split3, join, fsplit, fjoin, feq_i, feq_l}
use Rattle.refusing.proofs.Steps.{pick, await, suffices, agg, enter, lit, addr, fld, stop, no_more, and_then, first}
use Rattle.refusing.proofs.Steps.{branches, skips, exec, returns, returns_within, alloc_all, pass_all, free_all}
use Rattle.refusing.proofs.Steps.{look_at, get, through, sets, lands_as, env, usize, bool, RefOf, yes, hidden_shr}
use Rattle.refusing.proofs.Steps.{unhide, bounded, param, uint_vals, uint_Tells, owns, block_ptr, shr_vals, Slot, plain}
use Rattle.refusing.proofs.Steps.{types_at, nothing, heard, only, calls_at, lasts, triple_of, framed, Stays}
use Rattle.refusing.proofs.Steps.{stay_dropped, walk_of, Goes-dropped}
use Rattle.std.proofs.VecSteps.Shapes.{after}
use Rattle.refusing.specs.contracts.allocator.Requests as requests
use Rattle.refusing.specs.contracts.allocator.Requests.refuses_next as next
use Rattle.refusing.proofs.allocator.Requests.refuses_next.Met as next-thm
use Rattle.refusing.specs.contracts.allocator.Refusing as wrapper
use Rattle.refusing.specs.contracts.allocator.RefusingAllocator.allocate as f
use Rattle.refusing.specs.contracts.allocator.RefusingAllocator.allocate.Key as key
use Rattle.refusing.proofs.allocator.RefusingAllocator.allocate.Statement.{statement}
use Rattle.refusing.proofs.allocator.RefusingAllocator.allocate.Code as code

module _ (Z : Al) where
  abbrev self : Slot 2
  self = RefOf (0 ∷ []) tt (plain (λ _. wrapper.the_row (param 0 Z.row))) (λ _. tt)

  abbrev stayed : Stays (f.signature Z.row).params (f.ended Z.row Z.g Z.d Z.drops).kept
  stayed = (stay_dropped self yes, (stay_dropped (plain (λ _. usize)) yes, (stay_dropped (plain (λ _. usize)) yes, tt)))

  abbrev args : Args
  args = bounded (a_type ∷ []) (Z.row, tt) (dcons Z.d (dcons Z.drops dnil))

pub allocate_spec : {M : Type 1} → statement M
allocate_spec 𝓤 𝓛 𝓜 𝓡 wired Y L g d d' met _ =
    let Z : Al = record { row = Y; laws = L; g = g; d = d; drops = d' } in
    let T = f.ended Y g d d' in let c = f.clauses Y g d d' 𝓛 𝓜.mem 𝓡.returns in
    let 𝓣 = tables 𝓤 𝓛.H 𝓜 𝓡 𝓡.env in let W = walk_of 𝓛 T (stayed Z) c in let body = inst_fn (args Z) code.function in
    let number = Goes-dropped 𝓛 2 (plain (λ _. usize)) yes (λ κs x w. refl) in
    proved 𝓛 T (stayed Z) c 𝓜 𝓡 (Goes-dropped 𝓛 2 (self Z) yes (λ κs x w. refl), (number, (number, tt)))
    (key.name (args Z)) body (code.unfolded 𝓤 𝓛.H 𝓜 𝓡 wired (Y, tt) d d')
    (λ κs. (shr_vals, (uint_vals w64, (uint_vals w64, tt))))
    (λ κs. ((λ r vs s. s.0), (uint_Tells w64, (uint_Tells w64, tt)))) (λ κs qs bounds a τ are.
    let κ = κs.0 in let q = qs.0 in let r = a.0 in let n = a.1.0 in let al = a.1.1.0 in let b = r.ref_ptr.0 in
    let inner : ℕ × ℕ = (b, r.ref_ptr.1 + up (align (α Z)) 0) in
    let counter : ℕ × ℕ = (b, r.ref_ptr.1 + up 8 (up (align (α Z)) 0 + size (α Z))) in
    let y : W.Ghost = ((κs, qs, bounds, a, (shr_vals r, (vint w64 n ∷ [], (vint w64 al ∷ [], tt)))), τ) in
    let Next = triple_of 𝓛 next.signature (next.spec 𝓛 𝓜.mem 𝓡.returns) in
    let z : Next.Ghost = (
      (
        (κ, tt),
        (q, tt),
        tt,
        (record { ref_ptr = counter; now = r.now.requests }, tt),
        (vptr counter.0 counter.1 ∷ [], tt),
      ),
      tt,
    ) in
    -- [the tokens of both lifetimes]
    let refused : Sq 𝓛 (‵ (flft κ q) ∷ ‵ (flft κs.1.0 qs.1.0) ∷ []) (prop (W.post y (answer_val false 0 0))) =
    suffices ! _ (leaves 𝓛 T (stayed Z) c y (answer_val false 0 0) (Err (record {})) (tt, (tt, (tt, tt)))
    (tt, (tt, (tt, tt)))) $
    nothing ! $ use0 𝓛 (‵ (Answer.own_val (Err (record {})) (answer_val false 0 0 ∷ []))) (Answer-err 𝓛) $
    nothing ! $ nothing ! $ fjoin ! $ nothing ! $ fjoin ! $ nothing ! $ fjoin ! $
    nothing ! $ move ! (5 ∷ 0 ∷ []) $ join ! $ move ! (4 ∷ 0 ∷ []) $ join ! $ done ! in
    -- [the block with the right to free it; the tokens]
    let taken : (b' o : ℕ) → Sq 𝓛 (‵ (fsep (froom τ b' o) (token Z r.now.inner τ (block_ptr b' o))) ∷ ‵ (flft κ q) ∷ ‵
    (flft κs.1.0 qs.1.0) ∷ []) (prop (W.post y (answer_val true b' o))) = λ b' o.
    suffices ! _ (leaves 𝓛 T (stayed Z) c y (answer_val true b' o) (Ok (block_ptr b' o)) (tt, (tt, (tt, tt)))
    (tt, (tt, (tt, tt)))) $
    use0 𝓛 (‵ (Answer.own_val (Ok (block_ptr b' o)) (answer_val true b' o ∷ []))) (Answer-Ok 𝓛 b' o) $
    nothing ! $ nothing ! $ fjoin ! $ nothing ! $ fjoin ! $ nothing ! $ fjoin ! $
    nothing ! $ move ! (5 ∷ 0 ∷ []) $ join ! $ move ! (4 ∷ 0 ∷ []) $ join ! $ done ! in
    let calls = framed 𝓤 𝓛.H 𝓜 𝓣 in
    qed 𝓛 (((‵ (flft κ q) ⊛ ‵ (flft κs.1.0 qs.1.0) ⊛ ‵ ftrue) ⊛ ‵ (owns (types_at T.signature.params κs) a y.0.4)) ∷
    (raw (fact 𝓤 (κs.1.0 ⊑ Y.lives)) ⊛ raw (fact 𝓤 ((capped (size τ) ≡ n) × (capped (align τ) ≡ al)))) ∷ []) ∵
    move ! (1 ∷ []) $ split ! $ heard ! _
    (λ outlives. heard ! _ (λ layout. split ! $ split3 ! $ move ! (3 ∷ []) $ fsplit ! $ fsplit ! $ move !
    (1 ∷ []) $ unhide ! $ fsplit ! $ fsplit ! $
    use1 𝓛 (‵ (seen Z κ inner r.now.inner)) (id⊢ 𝓤 _) $ move ! (1 ∷ []) $ fsplit ! $ use1 𝓛
    (‵ (hidden_shr requests.the_row κ r.now.requests counter.0 counter.1)) (id⊢ 𝓤 _) $ keep ! (0 ∷ 2 ∷ 6 ∷ 7 ∷ []) $
    -- [the count; the allocator behind; the tokens]
    enter ! _ _ _ _ _ $ alloc_all ! (λ l. pass_all ! refl
    ((tt, tt), ((tt, record { fits = are.1.0.1 }), ((tt, record { fits = are.1.1.0.1 }), tt))) $
    sets ! (addr ! (through ! refl (fld ! refl (stop !)))) refl (tt, tt) $
    feq_i ! (List Val) (vptr counter.0 counter.1 ∷ [])
    (vptr counter.0 counter.1 ∷ []) refl $ fjoin ! $ nothing ! $ move ! (1 ∷ 0 ∷ []) $ join ! $ nothing ! $ move !
    (3 ∷ 0 ∷ []) $ join ! $ join ! $
    nothing ! $ move ! (1 ∷ 0 ∷ []) $ use2 𝓛 (raw (Next.pre z)) (id⊢ 𝓤 _) $
    calls_at ! calls Next
    (next-thm.met 𝓤 𝓛 𝓜 𝓡 (code.calls-refusing::allocator::Requests::refuses_next 𝓡.env wired)) z
    (and_then ! (get ! refl) (no_more !)) (λ v.
    use1 𝓛 (later (some (λ (is_due : Bool). ((‵ (flft κ q) ⊛ ‵ ftrue) ⊛ ‵ (bool.own_val is_due (v ∷ []))) ⊛ some
    (λ (ws : Unit {0} × Unit {0}). ‵ (lasts next.ended z.0.0 z.0.3 ws) ⊛ ‵ ftrue)))) (id⊢ 𝓤 _) $
    await ! tt $ pick ! (λ is_due. split ! $ split ! $ split ! $ move ! (2 ∷ []) $ feq_l !
    (λ is_bool. lands_as ! (ap only is_bool) refl (tt, tt) $
    -- [the token; nothing; what the count leaves; the allocator behind; the other token]
    first ! $ branches ! (get ! refl)
    (λ due. sets ! (agg ! (no_more !)) refl (tt, tt) $ sets !
    (agg ! (and_then ! (lit ! tt) (and_then ! (get ! refl) (no_more !)))) refl (Answer-typed false 0 0) $
    returns_within ! (W.post y) refl (look_at ! 0 refl) $ free_all ! refl $ keep ! (0 ∷ 4 ∷ []) $ refused)
    (λ passed. skips ! $ exec ! 𝓣.C 𝓣.Λ (env body.locals l) (after 3 body.body) (at_ret _ (W.post y)) $
    sets ! (addr ! (through ! refl (fld ! refl (stop !)))) refl (tt, tt) $ move ! (3 ∷ 0 ∷ []) $
    use2 𝓛 (raw ((Takes Z 𝓛 𝓜.mem 𝓡.returns).pre (at_takes Z 𝓛 𝓜.mem 𝓡.returns κ q inner r.now.inner n al τ)))
    (Takes-goes Z 𝓛 𝓜.mem 𝓡.returns κ q inner r.now.inner
    (⊑_trans κ κs.1.0 Y.lives bounds.0 outlives) n al τ layout.0 layout.1 are.1.0.1 are.1.1.0.1) $
    calls_at ! calls (Takes Z 𝓛 𝓜.mem 𝓡.returns) (met.allocate d')
    (at_takes Z 𝓛 𝓜.mem 𝓡.returns κ q inner r.now.inner n al τ)
    (and_then ! (get ! refl) (and_then ! (get ! refl) (and_then ! (get ! refl) (no_more !)))) (λ u.
    use1 𝓛 (later (raw (Answered Z 𝓛 𝓜.mem 𝓡.returns r.now.inner τ u) ⊛ ‵ (flft κ q)))
    (Takes-gives Z 𝓛 𝓜.mem 𝓡.returns κ q inner r.now.inner n al τ u) $ await ! tt $ split ! $
    answers Z ! 𝓜.mem 𝓡.returns r.now.inner τ u
    (λ b' o e. fjoin ! $ lands_as ! e refl (Answer-typed true b' o) $ returns !
    (look_at ! 0 refl) $ free_all ! refl $ keep ! (0 ∷ 1 ∷ 4 ∷ []) $ taken b' o)
    (λ e. lands_as ! e refl (Answer-typed false 0 0) $ returns ! (look_at ! 0 refl) $ free_all ! refl $ keep !
    (0 ∷ 3 ∷ []) $ refused))))))))))
