-- It gives the block back to the allocator behind it.
use Rattle.refusing.proofs.Steps.{[], ◌∷◌, ◌++◌, refl, w64, ◌≡◌, ℕ, ◌+◌, List, proved, leaves, Al, α, seen, token}
use Rattle.refusing.proofs.Steps.{Gives, at_gives, Gives-goes, Gives-Gives, Args, a_type, dnil, dcons, Val, vunit, vint}
use Rattle.refusing.proofs.Steps.{vptr, inst_fn, id⊢, fst∗, never, sem, ftrue, fsep, flft, size, align, capped, up}
use Rattle.refusing.proofs.Steps.{WpFn, ◌⊑◌, ⊑_trans, fact, tables, ‵, raw, ◌⊛◌, later, given, prop, ◌$◌, ◌∵◌, !, qed}
use Rattle.refusing.proofs.Steps.{done, move, keep, use1, split, split3, join, fsplit, fjoin, group, feq_i, learn}
use Rattle.refusing.proofs.Steps.{await, suffices, regoal, enter, of_opd, unit_lit, addr, fld, stop, no_more, and_then}
use Rattle.refusing.proofs.Steps.{returns, alloc_all, pass_all, free_all, look_at, get, through, sets, lands_as, usize}
use Rattle.refusing.proofs.Steps.{RawPtr, RefOf, yes, unhide, bounded, param, uint_vals, uint_Tells, owns, Ptr}
use Rattle.refusing.proofs.Steps.{block_ptr, null_ptr, room_for, in_a_block, rawptr_vals, rawptr_Tells, shr_vals, Slot}
use Rattle.refusing.proofs.Steps.{plain, types_at, nothing, heard, calls_at, framed, Stays, stay_dropped, walk_of}
use Rattle.refusing.proofs.Steps.{Goes-dropped}
use Rattle.refusing.specs.contracts.allocator.Refusing as wrapper
use Rattle.refusing.specs.contracts.allocator.RefusingAllocator.deallocate as f
use Rattle.refusing.specs.contracts.allocator.RefusingAllocator.deallocate.Key as key
use Rattle.refusing.proofs.allocator.RefusingAllocator.deallocate.Statement.{statement}
use Rattle.refusing.proofs.allocator.RefusingAllocator.deallocate.Code as code

module _ (Z : Al) where
  abbrev self : Slot 2
  self = RefOf (0 ∷ []) tt (plain (λ _. wrapper.the_row (param 0 Z.row))) (λ _. tt)

  abbrev stayed : Stays (f.signature Z.row).params (f.ended Z.row Z.g Z.d Z.drops).kept
  stayed = (
    stay_dropped self yes,
    (
      stay_dropped (plain (λ _. RawPtr)) yes,
      (stay_dropped (plain (λ _. usize)) yes, (stay_dropped (plain (λ _. usize)) yes, tt)),
    ),
  )

  abbrev args : Args
  args = bounded (a_type ∷ []) (Z.row, tt) (dcons Z.d (dcons Z.drops dnil))

pub deallocate_spec : {M : Type 1} → statement M
deallocate_spec 𝓤 𝓛 𝓜 𝓡 wired Y L g d d' met _ =
    let Z : Al = record { row = Y; laws = L; g = g; d = d; drops = d' } in
    let T = f.ended Y g d d' in let c = f.clauses Y g d d' 𝓛 𝓜.mem 𝓡.returns in
    let 𝓣 = tables 𝓤 𝓛.H 𝓜 𝓡 𝓡.env in let W = walk_of 𝓛 T (stayed Z) c in let body = inst_fn (args Z) code.function in
    let number = Goes-dropped 𝓛 2 (plain (λ _. usize)) yes (λ κs x w. refl) in
    proved 𝓛 T (stayed Z) c 𝓜 𝓡 (
      Goes-dropped 𝓛 2 (self Z) yes (λ κs x w. refl),
      (Goes-dropped 𝓛 2 (plain (λ _. RawPtr)) yes (λ κs x w. refl), (number, (number, tt))),
    )
    (key.name (args Z)) body (code.unfolded 𝓤 𝓛.H 𝓜 𝓡 wired (Y, tt) d d')
    (λ κs. (shr_vals, (rawptr_vals, (uint_vals w64, (uint_vals w64, tt)))))
    (λ κs. ((λ r vs s. s.0), (rawptr_Tells, (uint_Tells w64, (uint_Tells w64, tt))))) (λ κs qs bounds a τ are.
    let κ = κs.0 in let q = qs.0 in let r = a.0 in let n = a.1.1.0 in let al = a.1.1.1.0 in let h = r.now.inner in
    let inner : ℕ × ℕ = (r.ref_ptr.0, r.ref_ptr.1 + up (align (α Z)) 0) in
    let y : Ptr → W.Ghost = λ p. (
      (
        κs,
        qs,
        bounds,
        (r, (p, (n, (al, tt)))),
        (shr_vals r, (rawptr_vals p, (vint w64 n ∷ [], (vint w64 al ∷ [], tt)))),
      ),
      τ,
    ) in
    qed 𝓛 (((‵ (flft κ q) ⊛ ‵ (flft κs.1.0 qs.1.0) ⊛ ‵ ftrue) ⊛ ‵
    (owns (types_at T.signature.params κs) a (y a.1.0).0.4))
    ∷ (raw (fact 𝓤 (κs.1.0 ⊑ Y.lives)) ⊛ raw (fact 𝓤 ((capped (size τ) ≡ n) × (capped (align τ) ≡ al))) ⊛ ‵
    (fsep (room_for τ a.1.0) (token Z h τ a.1.0))) ∷ []) ∵
    move ! (1 ∷ []) $ split3 ! $ heard ! _ (λ outlives. heard ! _ (λ layout.
    in_a_block ! a.1.0 (λ p. fsep (room_for τ p) (token Z h τ p)) (fst∗ 𝓤 (never 𝓤) (sem 𝓛 (token Z h τ null_ptr)))
    (λ b o e.
    regoal ! (λ p. prop (WpFn 𝓤 𝓛.H 𝓣.C 𝓣.Λ body
    (vptr r.ref_ptr.0 r.ref_ptr.1 ∷ rawptr_vals p ++ vint w64 n ∷ vint w64 al ∷ []) (W.post (y p)))) e refl $
    move ! (1 ∷ []) $ split ! $ split3 ! $ move ! (3 ∷ []) $ fsplit ! $ fsplit ! $ move !
    (1 ∷ []) $ unhide ! $ fsplit ! $ fsplit ! $
    keep ! (0 ∷ 8 ∷ 5 ∷ 6 ∷ []) $ use1 𝓛 (‵ (seen Z κ inner h)) (id⊢ 𝓤 _) $ move ! (1 ∷ []) $
    -- [the block with the right to free it; the allocator behind; the tokens]
    enter ! _ _ _ _ _ $ alloc_all ! (λ l. pass_all ! refl
    ((tt, tt), ((tt, tt), ((tt, record { fits = are.1.1.0.1 }), ((tt, record { fits = are.1.1.1.0.1 }), tt)))) $
    sets ! (addr ! (through ! refl (fld ! refl (stop !)))) refl (tt, tt) $ fsplit ! $ group ! 4 $
    use1 𝓛 (raw ((Gives Z 𝓛 𝓜.mem 𝓡.returns).pre (at_gives Z 𝓛 𝓜.mem 𝓡.returns κ q inner h b o n al τ)))
    (Gives-goes Z 𝓛 𝓜.mem 𝓡.returns κ q inner h
    (⊑_trans κ κs.1.0 Y.lives bounds.0 outlives) b o n al τ layout.0 layout.1 are.1.1.0.1 are.1.1.1.0.1) $
    calls_at ! (framed 𝓤 𝓛.H 𝓜 𝓣) (Gives Z 𝓛 𝓜.mem 𝓡.returns) (met.deallocate d')
    (at_gives Z 𝓛 𝓜.mem 𝓡.returns κ q inner h b o n al τ)
    (and_then ! (get ! refl) (and_then ! (get ! refl) (and_then ! (get ! refl) (and_then ! (get ! refl) (no_more !)))))
    (λ v.
    use1 𝓛 (later (given (v ≡ vunit) (‵ (flft κ q))))
    (Gives-Gives Z 𝓛 𝓜.mem 𝓡.returns κ q inner h b o n al τ v) $ await ! tt $ learn ! (λ is_unit.
    lands_as ! is_unit refl (tt, tt) $ sets ! (of_opd ! (unit_lit !)) refl (tt, tt) $ returns !
    (look_at ! 0 refl) $ free_all ! refl $
    -- [the tokens]
    suffices ! _ (leaves 𝓛 T (stayed Z) c (y (block_ptr b o)) vunit tt (tt, (tt, (tt, (tt, tt))))
    (tt, (tt, (tt, (tt, tt))))) $
    nothing ! $ feq_i ! (List Val) (vunit ∷ [])
    (vunit ∷ []) refl $ nothing ! $ nothing ! $ fjoin ! $ nothing ! $ fjoin ! $ nothing ! $ fjoin ! $ nothing ! $
    fjoin ! $
    nothing ! $ move ! (5 ∷ 0 ∷ []) $ join ! $ move ! (4 ∷ 0 ∷ []) $ join ! $ done !)))))))
