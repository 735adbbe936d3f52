-- The lists of all positions and of all ordered pairs have each once, and no others.
use Prim.Native.Nat.{ℕ, zero, suc, ◌<◌}
use mathlib.Core.Bool.{true, Bool-set}
use mathlib.Core.HLevel.{⊥_prop}
use mathlib.Core.List.Memᴰ
use mathlib.Core.List.{List, [], ◌∷◌, ◌++◌, map, Mem, Nodup, Disjoint, mem-append, mem-append_left, mem-append_right, mem-map_of_mem, exists_of_mem-map, Nodup-append, append_cancel_right}
use mathlib.Core.Logic.Or
use mathlib.Core.Logic.{◌≢◌, ∥∥₁_elim}
use mathlib.Core.Path.{◌≡◌, ◌∙◌, refl, sym, ap, subst}
use mathlib.Mathlib.Data.List.Nodup.{Nodup-singleton, map as map-once, product as product-once}
use mathlib.Mathlib.Data.List.ProdSigma.{mem-product}
use native.Mathlib.Nat.{ℕ_set}
use native.Mathlib.Omega.{arith}
use lib.ListN.{length, take}
use lib.Seq.{take-suc, take_all, length-take-le, get_or_at}
use Rattle.board.specs.Position.{peg, well_formed}
use Rattle.board.proofs.Formed.{formed_pegs, formed_take}
use Rattle.plan.proofs.Three.{pegs, each_peg_lem}
use Rattle.averages.specs.Positions.{IsPosition, with_largest, positions, pairs}
use Rattle.averages.specs.Request10.{Lists, Any}
use Rattle.averages.proofs.Positions.{none_position, more_position}

-- A position is one in one way.
position_prop : (n : ℕ) (p : List ℕ) → IsProp (IsPosition n p)
position_prop n p a b =
    λ i. record { size = ℕ_set (length p) n a.size b.size i; formed = Bool-set (well_formed p) true a.formed b.formed i }

-- All positions of n discs with a disc more on peg i.
abbrev largest_on : ℕ → ℕ → List (List ℕ)
largest_on n i = map (with_largest i) (positions n)

-- What is listed is a position ..
listed_position : (n : ℕ) (p : List ℕ) → Mem p (positions n) → IsPosition n p
unfolding positions
listed_position zero p m =
    ∥∥₁_elim m (position_prop 0 p) (λ d. rw (Memᴰ.eq_of_singleton d) none_position)
listed_position (suc n) p m =
    let from : (i : ℕ) → i < 3 → Mem p (largest_on n i) → IsPosition (suc n) p = λ i hi l.
    ∥∥₁_elim (exists_of_mem-map l) (position_prop (suc n) p) (λ (q, mq, e). rw (← e) (more_position hi (listed_position n q mq))) in
    let prop = position_prop (suc n) p in
    Or.elim prop (mem-append.0 m) (λ l. Or.elim prop (mem-append.0 l) (from 0 (omega arith)) (from 1 (omega arith))) (from 2 (omega arith))

-- .. and every position is listed.
largest_listed : (n i : ℕ) → i < 3 → (q : List ℕ) → Mem q (positions n) → Mem (with_largest i q) (positions (suc n))
unfolding positions
largest_listed n =
    each_peg_lem (λ i. (q : List ℕ) → Mem q (positions n) → Mem (with_largest i q) (positions (suc n))) pegs
    (λ q m. mem-append_left (largest_on n 2) (mem-append_left (largest_on n 1) (mem-map_of_mem (with_largest 0) m)))
    (λ q m. mem-append_left (largest_on n 2) (mem-append_right (largest_on n 0) (mem-map_of_mem (with_largest 1) m)))
    (λ q m. mem-append_right (largest_on n 0 ++ largest_on n 1) (mem-map_of_mem (with_largest 2) m))

position_listed : (n : ℕ) (p : List ℕ) → IsPosition n p → Mem p (positions n)
unfolding positions
position_listed zero [] h = ∣ Memᴰ.head refl ∣₁
position_listed zero (b ∷ p) h = absurd (omega (arith, h.size))
position_listed (suc n) p h =
    let inside : n < length p = omega (arith, h.size) in
    let whole : p ≡ with_largest (peg p n) (take n p) = sym (take_all (suc n) p (omega (arith, h.size))) ∙ take-suc p n 0 inside in
    let smaller : IsPosition n (take n p) = record { size = length-take-le n p (omega arith); formed = formed_take n p h.formed } in
    subst (λ (q : List ℕ). Mem q (positions (suc n))) (sym whole)
    (largest_listed n (peg p n) (formed_pegs p h.formed n) (take n p) (position_listed n (take n p) smaller))

-- No position has its largest disc on two pegs ..
largest_apart : (n i j : ℕ) → i ≢ j → Disjoint (largest_on n i) (largest_on n j)
largest_apart n i j apart p m m' =
    ∥∥₁_elim (exists_of_mem-map m) ⊥_prop
    (λ (q, mq, e). ∥∥₁_elim (exists_of_mem-map m') ⊥_prop
    (λ (r, mr, e'). apart
    (sym (get_or_at q i [] 0 n (listed_position n q mq).size)
    ∙ ap (λ (l : List ℕ). peg l n) (e ∙ sym e')
    ∙ get_or_at r j [] 0 n (listed_position n r mr).size)))

-- .. so each is listed once.
positions_once : (n : ℕ) → Nodup (positions n)
unfolding positions
positions_once zero = Nodup-singleton []
positions_once (suc n) =
    let once : (i : ℕ) → Nodup (largest_on n i) = λ i. map-once (λ p q e. append_cancel_right p q (i ∷ []) e) (positions_once n) in
    let two = Nodup-append.1 (once 0, once 1, largest_apart n 0 1 (omega arith)) in
    Nodup-append.1 (
      two,
      once 2,
      λ p m m'. Or.elim ⊥_prop (mem-append.0 m) (λ l. largest_apart n 0 2 (omega arith) p l m') (λ l. largest_apart n 1 2 (omega arith) p l m'),
    )

-- So it is with the pairs.
pub pairs_listed : (n : ℕ) → Lists n Any (pairs n)
pairs_listed n =
    record {
      once = product-once (positions_once n) (positions_once n);
      all = λ p q. (
        (λ m. let (mp, mq) = mem-product.0 m in (listed_position n p mp, listed_position n q mq, tt)),
        λ (hp, hq, any). mem-product.1 (position_listed n p hp, position_listed n q hq),
      );
    }
