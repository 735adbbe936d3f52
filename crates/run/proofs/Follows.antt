-- The stepper's next move is the route's.
use Prim.Native.Nat.{ℕ, zero, suc, ◌+◌, ◌-◌, ◌≤◌, ◌<◌, ◌%◌}
use mathlib.Core.Path.{◌≡◌, ◌∙◌, ap, sym, refl, subst, subst₂}
use mathlib.Core.Bool.{Bool, true, false, cond}
use mathlib.Core.List.{List, ◌∷◌, ◌++◌}
use mathlib.Core.Logic.{◌≢◌, inl, inr}
use native.Mathlib.Decide.{ℕ_discrete}
use native.Mathlib.Omega.{arith}
use borrow.Author.Tests.{eq-eqb, ne_eqb, lt-ltb, le-ltb}
use lib.Dec.{eqb}
use lib.ListN.{length}
use Rattle.board.specs.Peg.{third}
use Rattle.board.specs.Position.{peg, WellFormed}
use Rattle.board.specs.Move.{Legal, top, moved}
use Rattle.board.proofs.Formed.{formed_pegs}
use Rattle.board.proofs.Top.{length_moved}
use Rattle.plan.specs.Gather.{gather}
use Rattle.plan.specs.Tower.{tower_length}
use Rattle.plan.specs.Inner.Three.{Three}
use Rattle.plan.proofs.Three.{three, three_third, three_turn, compare_pegs, each_peg_lem}
use Rattle.plan.proofs.Gathering.{Pegs, Tower, gather_shift, gathered_tower}
use Rattle.plan.proofs.Step.{Step, put, put_same, put_other, step_largest}
use Rattle.board.proofs.Leads.{formed_moved}
use Rattle.plan.proofs.Moves.{step_move, step_top, step_legal, step_moved}
use Rattle.route.specs.Route.{plain, spreading}
use Rattle.route.specs.declared.answer.DiscMove.{DiscMove}
use Rattle.route.proofs.Gatherings.Gathering.{gathering_cong, gathering_done, gathering_first, step_carry}
use Rattle.route.proofs.Gatherings.Spreading.{spreading_none, spreading_home, spreading_away}
use Rattle.route.proofs.Walks.Walk.{step_grow}
use Rattle.route.proofs.Shortest.Lowering.{lower_first}
use Rattle.route.specs.Inner.Aim.{aim}
use Rattle.route.proofs.Gatherings.Aim.{aim_peg, aim_parity, aim_less, aim_other, aim_tower, aim_after_lem, small_step}
use Rattle.run.specs.Inner.Pegs.{Holds, shifted}
use Rattle.run.specs.Inner.Ready.{aside, leg_rest, leg_move, leg_moves, Ready}
use Rattle.run.specs.Inner.Stepper.{top_of, second, last, small_turn, other_from, other_to, other_turn, spread_leg, next_leg, tower_aim, leg_turn, Advance, made, leg_step, gather_step, advance}
use Rattle.run.specs.declared.pegs.Pegs as pegs
use Rattle.run.specs.declared.stepper.Leg.{Leg}
use Rattle.run.specs.declared.stepper.Stepper.{Stepper}
use Rattle.run.proofs.Held.{holds_shifted}
use Rattle.run.proofs.Steps.{gather_small, gather_other, step_leg, step_gather}

-- The stepper makes the move m, which is legal, and is then ready for the moves after it.
pub record Follows (t : Advance) (p : List ℕ) (q : ℕ → ℕ) (m : DiscMove) (ms : List DiscMove) : Type 0 where
  pub from : t.from ≡ m.from
  pub to : t.to ≡ m.to
  pub legal : Legal p (plain m)
  pub next : 0 < length ms → Ready t.stepper (moved p (plain m)) q ms

-- Of n discs disc d + 1 is on peg u d, and the stepper has the moves ms ahead.
record Ahead (s : Stepper) (n : ℕ) (u q : ℕ → ℕ) (ms : List DiscMove) : Type 0 where
  leg_there : s.leg.disc < n
  leg_pegs : Three s.leg.from s.leg.to (aside s.leg)
  leg_from : u s.leg.disc ≡ s.leg.from
  left : s.turn.left ≡ gather u s.leg.disc (aside s.leg)
  rest : ms ≡ leg_moves s.leg u q
  small : s.turn.small ≡ u 0
  aimed : s.turn.left % 2 ≡ 1 → s.turn.aim ≡ aim u (s.leg.disc - 1) (aside s.leg)

-- A position that the arrays hold is where such a stepper is ready.
ahead_ready : {s : Stepper} {n : ℕ} {u q : ℕ → ℕ} {ms : List DiscMove} (p : List ℕ) → Holds s.pegs p → WellFormed p → length p ≡ n → peg p ≡ u
    → Ahead s n u q ms → Ready s p q ms
ahead_ready {s} {n} {u} {q} {ms} p held formed size same a =
    let b : Ahead s (length p) (peg p) q ms = subst₂ (λ (i : ℕ) (f : ℕ → ℕ). Ahead s i f q ms) (sym size) (sym same) a in
    record {
      holds = held;
      formed = formed;
      leg_there = b.leg_there;
      leg_pegs = b.leg_pegs;
      leg_from = b.leg_from;
      left = b.left;
      rest = b.rest;
      small = b.small;
      aimed = b.aimed;
    }

-- A step of the discs is what the stepper makes of the first move, if it names its pegs and then stands where the step leads.
step_follows : {s : Stepper} {p : List ℕ} {q v : ℕ → ℕ} {m : DiscMove} {ms : List DiscMove} {k : ℕ} → Ready s p q (m ∷ ms) → k ≤ length p
    → (st : Step k (peg p) v) (t : Advance) → m ≡ step_carry st → t.from ≡ peg p st.disc → t.to ≡ v st.disc
    → t.stepper.pegs ≡ shifted s.pegs t.from t.to → (0 < length ms → Ahead t.stepper (length p) v q ms) → Follows t p q m ms
step_follows {s} {p} {q} {v} r h st t em ef et ep after =
    let legal = step_legal p v (step_grow h st) in
    rw em
    (record {
      from = ef;
      to = et;
      legal = legal;
      next = λ l.
          ahead_ready (moved p (step_move st)) (rw (ep, ef, et) (holds_shifted s.pegs p (step_move st) r.holds legal))
          (formed_moved p (step_move st) r.formed legal) (length_moved p (step_move st)) (step_moved p v (step_grow h st)) (after l);
    })

-- The stepper makes a move from i to j within its leg.
abbrev within : Stepper → (i j small aim : ℕ) → Advance
within s i j small aim =
    made s (record { from = i; to = j; turn = record { small = small; aim = aim; left = s.turn.left - 1 } }) s.leg

-- The gathering goes on: a step that lowers it is its first move, and the leg stays.
goes_on : {s : Stepper} {p : List ℕ} {q v : ℕ → ℕ} {m : DiscMove} {ms : List DiscMove} → Ready s p q (m ∷ ms)
    → (st : Step s.leg.disc (peg p) v) → gather v s.leg.disc (aside s.leg) + 1 ≡ gather (peg p) s.leg.disc (aside s.leg)
    → {i j small' aim' : ℕ} → i ≡ peg p st.disc → j ≡ v st.disc → small' ≡ v 0
    → ((s.turn.left - 1) % 2 ≡ 1 → aim' ≡ aim v (s.leg.disc - 1) (aside s.leg)) → Follows (within s i j small' aim') p q m ms
goes_on {s} {p} {q} {v} {m} {ms} r st less ei ej es ea =
    let d = s.leg.disc in
    let hu = formed_pegs p r.formed in
    let first = lower_first d hu (aside s.leg) r.leg_pegs.third st less in
    let moves : m ∷ ms ≡ step_carry st ∷ leg_moves s.leg v q =
    r.rest ∙ ap (λ (l : List DiscMove). l ++ (leg_move s.leg ∷ leg_rest s.leg q)) first in
    step_follows r (omega (arith, r.leg_there)) st (within s _ _ _ _) (cc) ei ej refl
    (λ l. record {
      leg_there = r.leg_there;
      leg_pegs = r.leg_pegs;
      leg_from = sym (st.others d (omega (arith, st.below))) ∙ r.leg_from;
      left = omega (arith, r.left);
      rest = cc;
      small = es;
      aimed = ea;
    })

-- The step of disc 1 to peg a lowers the gathering.
record Small (u : ℕ → ℕ) (k j a : ℕ) : Type 0 where
  step : Step k u (put u 0 a)
  is_small : step.disc ≡ 0
  less : gather (put u 0 a) k j + 1 ≡ gather u k j

-- An odd number is left: disc 1 is not on its target, and its step there lowers the gathering.
small_first : (u : ℕ → ℕ) → Pegs u → (k j : ℕ) → j < 3 → gather u k j % 2 ≡ 1 → Small u k j (aim u (k - 1) j)
small_first u hu zero j hj odd = absurd (unfold gather in omega arith)
small_first u hu (suc k) j hj odd =
    let same : suc k - 1 ≡ k = omega arith in
    let n : u 0 ≢ aim u k j = λ e. omega (arith, rw (eq-eqb (u 0) (aim u k j) e) at (aim_parity u k j)) in
    rw same (record { step = small_step u k (aim u k j) (hu 0) (aim_peg u k j hj) n; is_small = refl; less = aim_less u k j n })

-- So the stepper moves disc 1 to its target.
small_follows : (s : Stepper) (p : List ℕ) (q : ℕ → ℕ) (m : DiscMove) (ms : List DiscMove) → Ready s p q (m ∷ ms) → s.turn.left % 2 ≡ 1
    → Follows (made s (small_turn s.turn) s.leg) p q m ms
unfolding small_turn
small_follows s p q m ms r odd =
    let u = peg p in
    let a = aim u (s.leg.disc - 1) (aside s.leg) in
    let f = small_first u (formed_pegs p r.formed) s.leg.disc (aside s.leg) r.leg_pegs.third (rw (← r.left) odd) in
    let goal : s.turn.aim ≡ put u 0 a 0 = r.aimed odd ∙ sym (put_same u 0 a) in
    goes_on r f.step f.less (rw f.is_small r.small) (rw f.is_small goal) goal (λ e. absurd (omega arith))

-- A step of a disc above 1 lowers the gathering and gives disc 1 its next target.
record Other (u : ℕ → ℕ) (k j : ℕ) : Type 0 where
  next : ℕ → ℕ
  step : Step k u next
  less : gather next k j + 1 ≡ gather u k j
  above : 0 < step.disc
  target : aim next (k - 1) j ≡ cond (eqb (suc step.disc % 2) 0) (next step.disc) (u step.disc)

-- An even number is left: disc 1 is on its target, and such a step is the first.
other_first : (u : ℕ → ℕ) → Pegs u → (k j : ℕ) → j < 3 → 0 < gather u k j → gather u k j % 2 ≡ 0 → Other u k j
other_first u hu zero j hj l even = absurd (unfold gather in omega arith)
other_first u hu (suc k) j hj l even =
    let same : suc k - 1 ≡ k = omega arith in
    let f = gathering_first u hu (suc k) j hj l in
    let home : u 0 ≡ aim u k j =
    elim (ℕ_discrete (u 0) (aim u k j)) [ yes e ↦ e | no n ↦ absurd (omega (arith, rw (ne_eqb (u 0) (aim u k j) n) at (aim_parity u k j))) ] in
    let above = aim_other u f.next k j home f.step f.less in
    record { next = f.next; step = f.step; less = f.less; above = above; target = rw same (aim_after_lem k j hj f.step f.less above) }

-- The stepper's move without disc 1 is from i to j.
record Between (s : Stepper) (i j : ℕ) : Type 0 where
  from : other_from s.pegs.top s.turn.small ≡ i
  to : other_to s.pegs.top s.turn.small ≡ j

-- The two pegs without disc 1 are the others of three.
two_others : (i : ℕ) → i < 3 → Three (second i) (last i) i
two_others zero h = omega arith
two_others (suc zero) h = omega arith
two_others (suc (suc zero)) h = omega arith
two_others (suc (suc (suc i))) h = absurd (omega arith)

-- Of three pegs one that is neither the first nor the last is the second.
middle : {i j k : ℕ} → Three i j k → (a : ℕ) → a < 3 → a ≢ i → a ≢ k → a ≡ j
middle {i} {j} {k} h =
    each_peg_lem (λ a. a ≢ i → a ≢ k → a ≡ j) h (λ n o. absurd (n refl)) (λ n o. refl) (λ n o. absurd (o refl))

-- Of the two pegs without disc 1 the smaller topmost disc leaves the one for the other.
between : (s : Stepper) (p : List ℕ) {i j : ℕ} → Holds s.pegs p → Three i j s.turn.small → top p i < top p j → Between s i j
unfolding other_from other_to
between s p {i} {j} w h l =
    let g = two_others s.turn.small h.third in
    let ti = w.tops i h.first in
    let tj = w.tops j h.second in
    elim (ℕ_discrete (second s.turn.small) i) [
      | yes e ↦
          let e' : last s.turn.small ≡ j = omega arith in
          let t = lt-ltb (top_of s i) (top_of s j) (omega arith) in
          record { from = rw (e, e', t); to = rw (e, e', t) }
      | no n ↦
          let e : second s.turn.small ≡ j = middle h (second s.turn.small) g.first n g.first_third in
          let e' : last s.turn.small ≡ i = omega arith in
          let t = le-ltb (top_of s j) (top_of s i) (omega arith) in
          record { from = rw (e, e', t); to = rw (e, e', t) }
    ]

-- So the stepper moves the other disc.
other_follows : (s : Stepper) (p : List ℕ) (q : ℕ → ℕ) (m : DiscMove) (ms : List DiscMove) → Ready s p q (m ∷ ms) → 0 < s.turn.left → s.turn.left % 2 ≡ 0
    → Follows (made s (other_turn s.pegs.top s.turn) s.leg) p q m ms
unfolding other_turn
other_follows s p q m ms r l even =
    let u = peg p in
    let d = s.leg.disc in
    let f = other_first u (formed_pegs p r.formed) d (aside s.leg) r.leg_pegs.third (rw (← r.left) l) (rw (← r.left) even) in
    let st = f.step in
    let free : st.free ≡ s.turn.small = sym (st.smaller 0 f.above) ∙ sym r.small in
    let whole = step_grow {n = length p} (omega (arith, r.leg_there)) st in
    let disc : top_of s (u st.disc) ≡ suc st.disc = r.holds.tops (u st.disc) st.pegs.first ∙ ap suc (step_top p f.next whole) in
    let b = between s p r.holds (subst (Three (u st.disc) (f.next st.disc)) free st.pegs) (step_legal p f.next whole).clear in
    goes_on r st f.less b.from b.to (r.small ∙ st.others 0 (omega (arith, f.above)))
    (λ e. rw (b.from, b.to, disc, f.target))

-- A leg of n discs begins with the smaller ones as a tower on w.
record Begins (l : Leg) (n : ℕ) (v q : ℕ → ℕ) (w : ℕ) (ms : List DiscMove) : Type 0 where
  there : l.disc < n
  pegs : Three l.from l.to (aside l)
  here : v l.disc ≡ l.from
  tower : Tower v l.disc w
  away : Three w (aside l) (third w (aside l))
  rest : ms ≡ leg_moves l (λ _. w) q

-- So does the next leg of a spreading that is not over.
spread_begins : (n : ℕ) (v q : ℕ → ℕ) → Pegs q → (k w : ℕ) → w < 3 → k ≤ n → Tower v k w → 0 < length (spreading q k w)
    → Begins (spread_leg q k w) n v q w (spreading q k w)
unfolding spread_leg leg_rest
spread_begins n v q hq zero w hw h t l = absurd (omega (arith, ap length (spreading_none q w)))
spread_begins n v q hq (suc k) w hw h t l =
    elim (compare_pegs w (q k) hw (hq k)) [
      | inl e ↦
          let same = spreading_home q k (sym e) in
          rw (eq-eqb (q k) w (sym e), same) (spread_begins n v q hq k w hw (omega arith) (λ d b. t d (omega arith)) (rw same at l))
      | inr g ↦
          rw (ne_eqb (q k) w (λ e. g.first_second (sym e)))
          (record {
            there = h;
            pegs = g;
            here = t k (omega arith);
            tower = λ d b. t d (omega arith);
            away = three w (third w (q k)) hw g.third g.first_third;
            rest = spreading_away q k refl g;
          })
    ]

-- A leg by its parts.
abbrev leg : ℕ → ℕ → ℕ → Bool → Leg
leg d i j again = record { disc = d; from = i; to = j; again = again }

-- And so does the leg after a leg.
next_begins : (n : ℕ) (v q : ℕ → ℕ) → Pegs q → (d i j : ℕ) (again : Bool) → Three i j (third i j) → d < n → v d ≡ j → Tower v d (third i j)
    → 0 < length (leg_rest (leg d i j again) q) → Begins (next_leg (leg d i j again) q) n v q (third i j) (leg_rest (leg d i j again) q)
unfolding next_leg leg_rest
next_begins n v q hq d i j true h there here t l =
    let back = three_third (three_turn h) in
    let g = three_turn (three_turn h) in
    record {
      there = there;
      pegs = rw back (three_turn h);
      here = here;
      tower = t;
      away = rw (back, three_third g) g;
      rest = rw back;
    }
next_begins n v q hq d i j false h there here t l = spread_begins n v q hq d (third i j) h.third (omega arith) t l

-- Disc 1's target when the smaller discs set out as a tower.
tower_aim_lem : (v : ℕ → ℕ) (k : ℕ) {w j x : ℕ} → Tower v k w → Three w j x → tower_length k % 2 ≡ 1 → tower_aim k w j ≡ aim v (k - 1) j
unfolding tower_aim
tower_aim_lem v zero t h odd = absurd (omega arith)
tower_aim_lem v (suc k) t h odd = let same : suc k - 1 ≡ k = omega arith in rw (same, three_third h, aim_tower v k t h)

-- A stepper that begins a leg has what the leg begins with ahead.
begins_ahead : {l : Leg} {n w : ℕ} {v q : ℕ → ℕ} {ms : List DiscMove} (a : pegs.Pegs) (small' : ℕ) → small' ≡ v 0 → Begins l n v q w ms
    → Ahead (record { pegs = a; turn = record { small = small'; aim = tower_aim l.disc w (aside l); left = tower_length l.disc }; leg = l }) n v q ms
begins_ahead {l} {n} {w} {v} {q} a small' es b =
    let d = l.disc in
    record {
      leg_there = b.there;
      leg_pegs = b.pegs;
      leg_from = b.here;
      left = omega (arith, gather_shift v d b.away b.tower);
      rest = rw (gathering_cong d v (λ _. w) (aside l) b.tower) b.rest;
      small = es;
      aimed = tower_aim_lem v d b.tower b.away;
    }

-- Where disc 1 is after the leg's own move.
small_after : (u : ℕ → ℕ) (d j i : ℕ) → i ≡ u 0 → cond (eqb d 0) j i ≡ put u d j 0
small_after u zero j i e = sym (put_same u 0 j)
small_after u (suc d) j i e = rw (ne_eqb (suc d) 0 (omega arith)) (e ∙ sym (put_other u (suc d) j 0 (omega arith)))

-- Nothing is left to gather: the leg's own move, and then the next leg.
leg_follows : (s : Stepper) (p : List ℕ) (q : ℕ → ℕ) (m : DiscMove) (ms : List DiscMove) → Pegs q → Ready s p q (m ∷ ms) → s.turn.left ≡ 0
    → Follows (leg_step s q) p q m ms
unfolding leg_turn
leg_follows s p q m ms hq r none =
    let u = peg p in
    let l = s.leg in
    let h = r.leg_pegs in
    let v = put u l.disc l.to in
    let t : Tower u l.disc (aside l) = gathered_tower u (formed_pegs p r.formed) l.disc (aside l) h.third (sym r.left ∙ none) in
    let moves : m ∷ ms ≡ leg_move l ∷ leg_rest l q = r.rest ∙ rw (gathering_done u l.disc (aside l) t) in
    let es : ms ≡ leg_rest l q = cc in
    let here : v l.disc ≡ l.to = put_same u l.disc l.to in
    let below : Tower v l.disc (aside l) = λ d b. put_other u l.disc l.to d (omega arith) ∙ t d b in
    let st = step_largest u l.disc l.to (aside l) (rw r.leg_from h) t in
    let em : m ≡ step_carry st = cc (here, r.leg_from) in
    step_follows r r.leg_there st (leg_step s q) em (sym r.leg_from) (sym here) refl
    (λ more. rw es
    (begins_ahead _ _ (small_after u l.disc l.to s.turn.small r.small)
    (next_begins (length p) v q hq l.disc l.from l.to l.again h r.leg_there here below (rw es at more))))

-- Something is left to gather: disc 1's move or the other, within the leg.
gather_follows : (s : Stepper) (p : List ℕ) (q : ℕ → ℕ) (m : DiscMove) (ms : List DiscMove) → Ready s p q (m ∷ ms) → s.turn.left ≢ 0
    → Follows (gather_step s) p q m ms
gather_follows s p q m ms r n =
    elim (ℕ_discrete (s.turn.left % 2) 1) [
      | yes odd ↦ rw (gather_small s.pegs.top s.turn odd) (small_follows s p q m ms r odd)
      | no o ↦ rw (gather_other s.pegs.top s.turn o) (other_follows s p q m ms r (omega arith) (omega arith))
    ]

-- The stepper makes the route's next move, and is ready for the moves after it.
pub ready_step : (s : Stepper) (p : List ℕ) (q : ℕ → ℕ) (m : DiscMove) (ms : List DiscMove) → Pegs q → Ready s p q (m ∷ ms)
    → Follows (advance s q) p q m ms
ready_step s p q m ms hq r =
    elim (ℕ_discrete s.turn.left 0) [
      | yes e ↦ rw (step_leg s q e) (leg_follows s p q m ms hq r e)
      | no n ↦ rw (step_gather s q n) (gather_follows s p q m ms r n)
    ]
