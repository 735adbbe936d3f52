-- Laws of the next move: which of its cases a stepper is in, and what each gives.
use Prim.Native.Nat.{ℕ, zero, suc, ◌+◌, ◌%◌, ◌≤◌, ◌<◌}
use mathlib.Core.Bool.{Bool, true, false, cond}
use mathlib.Core.Logic.{◌≢◌}
use mathlib.Core.List.{List}
use mathlib.Core.Path.{◌≡◌, ◌∙◌, refl, sym, ap}
use native.Mathlib.Decide.{ℕ_discrete}
use native.Mathlib.Omega.{arith}
use borrow.Author.Tests.{eq-eqb, ne_eqb, lt-ltb}
use lib.Dec.{eqb}
use lib.ListN.{length, length-take, take, get_or}
use lib.Seq.{get_or-take}
use Rattle.board.specs.Position.{peg}
use Rattle.board.specs.Task.{limit}
use Rattle.board.proofs.Formed.{formed_pegs}
use Rattle.board.proofs.Pegs.{third_peg}
use Rattle.run.specs.Inner.Pegs.{Carries, shifted, disc_on}
use Rattle.run.specs.Inner.Stepper.{Turned, small_turn, other_turn, gather_turn, spread_leg, next_leg, leg_turn, Advance, leg_step, gather_step, advance, Safe, second, last, other_from, other_to}
use Rattle.run.specs.declared.pegs.Pegs.{Pegs}
use Rattle.run.specs.declared.stepper.Leg.{Leg}
use Rattle.run.specs.declared.stepper.Turn.{Turn}
use Rattle.run.specs.declared.stepper.Stepper.{Stepper}

-- Of the two pegs without disc 1 the first has the smaller topmost disc.
pub other_second : (t : List ℕ) (i : ℕ) → disc_on t (second i) < disc_on t (last i) → (other_from t i ≡ second i) × (other_to t i ≡ last i)
unfolding other_from other_to
other_second t i h = let yes = lt-ltb _ _ h in (rw yes, rw yes)

module _ (t : List ℕ) (u : Turn) where
  -- An odd number is left to gather.
  pub gather_small : u.left % 2 ≡ 1 → gather_turn t u ≡ small_turn u
  unfolding gather_turn
  gather_small h = rw (eq-eqb _ _ h)

  -- An even number is left.
  pub gather_other : u.left % 2 ≢ 1 → gather_turn t u ≡ other_turn t u
  unfolding gather_turn
  gather_other h = rw (ne_eqb _ _ h)

-- A leg's disc is one of k + 1, and it goes between pegs.
pub record LegWithin (k : ℕ) (l : Leg) : Type 0 where
  pub disc : l.disc ≤ k
  pub from : l.from < 3
  pub to : l.to < 3

-- What two legs are the choice between them is.
within_cond : {k : ℕ} {x y : Leg} (b : Bool) → LegWithin k x → LegWithin k y → LegWithin k (cond b x y)
within_cond true h g = h
within_cond false h g = g

module _ (q : ℕ → ℕ) (pegs : (d : ℕ) → q d < 3) where
  -- A leg of the spreading of k discs is one of them.
  spread_within : (k w : ℕ) → w < 3 → LegWithin k (spread_leg q k w)
  unfolding spread_leg
  spread_within zero w h = record { disc = omega arith; from = omega arith; to = omega arith }
  spread_within (suc k) w h =
      let rest = spread_within k w h in
      within_cond (eqb (q k) w) (record { disc = omega arith; from = rest.from; to = rest.to })
      (record { disc = omega arith; from = h; to = pegs k })

  -- The leg after a leg is of the same discs.
  pub next_within : (k : ℕ) (l : Leg) → LegWithin k l → LegWithin k (next_leg l q)
  unfolding next_leg
  next_within k l w =
      let on = third_peg l.from l.to w.from in
      let rest = spread_within l.disc _ on in
      within_cond l.again (record { disc = w.disc; from = w.to; to = on })
      (record { disc = omega arith; from = rest.from; to = rest.to })

module _ (s : Stepper) (q : ℕ → ℕ) where
  -- Nothing is left to gather.
  pub step_leg : s.turn.left ≡ 0 → advance s q ≡ leg_step s q
  unfolding advance
  step_leg h = rw (eq-eqb _ _ h)

  -- Something is left.
  pub step_gather : s.turn.left ≢ 0 → advance s q ≡ gather_step s
  unfolding advance
  step_gather h = rw (ne_eqb _ _ h)

module _ (s : Stepper) (g : List ℕ) (may : Safe s g) where
  -- Where nothing is left to gather, the leg is of discs of the goal, and its peg has a disc to carry.
  pub safe_leg : s.turn.left ≡ 0 → LegWithin (length g) s.leg × Carries s.pegs.top s.leg.from
  unfolding leg_turn
  safe_leg h =
      let is = step_leg s (peg g) h in
      (record { disc = may.leg_disc h; from = rw is at may.from; to = rw is at may.to }, rw is at may.carries)

-- What a stepper knows of a leg's own move: the leg and the next one are of discs of the goal, and the leg's peg has a disc to carry.
pub record LegSafe (t : Stepper) (g : List ℕ) : Type 0 where
  pub now : LegWithin (length g) t.leg
  pub carries : Carries t.pegs.top t.leg.from
  pub next : LegWithin (length g) (next_leg t.leg (peg g))
  pub within : length g ≤ limit

-- Where nothing is left to gather, a stepper that can make its next move knows all that.
pub leg_safe : {t x : Stepper} (g : List ℕ) → t ≡ x → Safe x g → t.turn.left ≡ 0 → LegSafe t g
leg_safe {t} g here safe none =
    let may : Safe t g = rw here safe in
    let (now, carries) = safe_leg t g may none in
    record {
      now = now;
      carries = carries;
      next = next_within (peg g) (formed_pegs g may.formed) (length g) t.leg now;
      within = may.within;
    }

-- What a move leaves, with the pegs a after it, in the leg l.
abbrev pub stepped : Turned → Pegs → Leg → Advance
stepped r a l = record { from = r.from; to = r.to; stepper = record { pegs = a; turn = r.turn; leg = l } }

-- The leg's own move goes between its pegs.
pub leg_goes : (u : Turn) (l l' : Leg) {r : Turned} → r ≡ leg_turn u l l' → (r.from ≡ l.from) × (r.to ≡ l.to)
unfolding leg_turn
leg_goes u l l' e = (ap (λ (r : Turned). r.from) e, ap (λ (r : Turned). r.to) e)

-- Made in the pegs, it is the stepper's next.
pub leg_made : {t x : Stepper} {l : Leg} {r : Turned} {a : Pegs} (q : ℕ → ℕ) → t ≡ x → t.turn.left ≡ 0 → l ≡ next_leg t.leg q
    → r ≡ leg_turn t.turn t.leg l → a ≡ shifted t.pegs r.from r.to → stepped r a l ≡ advance x q
leg_made {t} q here none next is held = rw (← here, step_leg t q none, ← next, ← is, held)

-- Where each of the first k goals is the tower's peg there is no next leg of the spreading.
none_below : (g : List ℕ) (k w : ℕ) → ((d : ℕ) → d < k → peg g d ≡ w) → record { disc = 0; from = 0; to = 0; again = false } ≡ spread_leg (peg g) k w
unfolding spread_leg
none_below g zero w home = refl
none_below g (suc k) w home = rw (eq-eqb (peg g k) w (home k (omega arith))) (none_below g k w (λ d h. home d (omega arith)))

pub spread_none : (g : List ℕ) (k w : ℕ) → k ≤ length g → ((d : ℕ) → d < length (take k g) → get_or (take k g) d 0 ≡ w)
    → record { disc = 0; from = 0; to = 0; again = false } ≡ spread_leg (peg g) k w
spread_none g k w room home =
    none_below g k w (λ d h. sym (get_or-take k g d 0 h) ∙ home d (omega (arith, length-take k g)))

-- Else it is that of the last whose goal is another.
last_below : (g : List ℕ) (k w d : ℕ) → d < k → peg g d ≢ w → ((e : ℕ) → d < e → e < k → peg g e ≡ w)
    → record { disc = d; from = w; to = peg g d; again = false } ≡ spread_leg (peg g) k w
unfolding spread_leg
last_below g zero w d h away home = absurd (omega arith)
last_below g (suc k) w d h away home =
    elim (ℕ_discrete d k) [
      | yes e ↦ rw (e, ne_eqb (peg g k) w (rw e at away))
      | no n ↦ rw (eq-eqb (peg g k) w (home k (omega arith) (omega arith))) (last_below g k w d (omega arith) away (λ e i j. home e i (omega arith)))
    ]

pub spread_last : (g : List ℕ) (k w d : ℕ) → k ≤ length g → d < length (take k g) → get_or (take k g) d 0 ≢ w
    → ((e : ℕ) → d + 1 ≤ e → e < length (take k g) → get_or (take k g) e 0 ≡ w)
    → record { disc = d; from = w; to = get_or g d 0; again = false } ≡ spread_leg (peg g) k w
spread_last g k w d room h away home =
    let below : d < k = omega (arith, length-take k g) in
    last_below g k w d below (rw (get_or-take k g d 0 below) at away) (λ e i j. sym (get_or-take k g e 0 j) ∙ home e (omega arith) (omega (arith, length-take k g)))

-- What is known of a leg's own move.
pub ruleset legs = (leg_safe, leg_goes, leg_made)
