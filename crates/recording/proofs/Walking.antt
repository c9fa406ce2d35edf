-- The walk over a range's positions: upward, one position at a time, and no further once it is settled.
use Prim.Native.Nat.{ℕ, zero, suc, ◌+◌, ◌-◌, ◌≤◌, ◌<◌, max}
use mathlib.Core.Path.{◌≡◌, refl, sym, ap, ap₂, ◌∙◌}
use mathlib.Core.Bool.{Bool, true, false, not, ◌&&◌, false≢true}
use mathlib.Core.List.{List, [], ◌∷◌, ◌++◌}
use native.Mathlib.Omega.{arith}
use lib.Dec.{ltb}
use lib.ListN.{length, get_or}
use lib.Seq.{length-take-le}
use borrow.Author.Tests.{lt-ltb, le-ltb}
use Rattle.rule.specs.declared.Outcome.{Outcome}
use Rattle.rule.specs.Formula.{Formula, flag}
use Rattle.rule.specs.declared.Range.{Range}
use Rattle.rule.specs.Meaning.{range, walk, seen, both, outcome}
use Rattle.rule.specs.Recording.{recorded}
use Rattle.rule.specs.Started.{From, raise}
use Rattle.rule.specs.Naming.{names}
use Rattle.rule.proofs.Every.{seen_in, seen_out, walk_next}
use Rattle.rule.proofs.Alike.{unnamed_walk}
use Rattle.rule.proofs.Horizon.{from_less, from_seen, from_start}
use Rattle.nodes.specs.Table.{bound_at, formula_in}
use Rattle.rule.specs.Ticks.{clamped_at}
use Rattle.ranges.specs.Clamped.{clamped}
use Rattle.ranges.specs.Plans.{Plans}
use Rattle.ranges.proofs.Clamping.{clamped_at_same, getD_clamped}
use Rattle.ranges.proofs.Bounds.{range_same}
use Rattle.ranges.proofs.Planning.{plans_same}
use Rattle.rule.proofs.Conjunction.{both_comm, both_exchange}
use Rattle.naming.specs.Ranges.{forall_of_node}
use Rattle.recording.specs.declared.env.Env.{Env}
use Rattle.recording.specs.Evaluating.{bound_positions, entered, false_by, Evaluable}
use Rattle.recording.proofs.Environment.{place_at, places_more}
use Rattle.recording.proofs.Parts.{settled_both}

-- ---- any walk

-- an outcome beside a walk stands beside its end
both_walk : (f : ℕ → Outcome) (n q : ℕ) (o end : Outcome) → both o (walk f n q end) ≡ walk f n q (both o end)
unfolding walk
both_walk f zero q o end = refl
both_walk f (suc n) q o end = both_exchange o (f q) (walk f n (suc q) end) ∙ ap (both (f q)) (both_walk f n (suc q) o end)

-- one position further
pub walk_step : (f : ℕ → Outcome) (n q : ℕ) {o r : Outcome} (acc : Outcome) → 0 < n → o ≡ f q → r ≡ both o acc → walk f n q acc ≡ walk f (n - 1) (q + 1) r
walk_step f n q {o} {r} acc h e g =
    walk_next f n q acc (λ z. omega arith)
    ∙ both_walk f (n - 1) (q + 1) (f q) acc
    ∙ ap (walk f (n - 1) (q + 1)) (ap (λ (x : Outcome). both x acc) (sym e) ∙ sym g)

-- settled, and no position further on is decided before the start
walk_done : (f : ℕ → Outcome) (start n q : ℕ) (acc : Outcome) → ((p : ℕ) → q ≤ p → From start (f p)) → false_by acc start ≡ true → walk f n q acc ≡ acc
unfolding walk
walk_done f start zero q acc h e = refl
walk_done f start (suc n) q acc h e =
    ap (both (f q)) (walk_done f start n (suc q) acc (λ p k. h p (omega arith)) e)
    ∙ both_comm (f q) acc ∙ sym (settled_both acc (f q) start e (h q (omega arith)))

-- ---- the bodies of a "for all"

not_named : (a b : Bool) → (a && not b) ≡ true → b ≡ false
not_named true true h = absurd (false≢true h)
not_named true false h = refl
not_named false b h = absurd (false≢true h)

-- The outcome of the body at position q: "starts its body at max(s, q); one above t is open".
abbrev pub body_at : Formula → List ℕ → ℕ → List ℕ → ℕ → ℕ → Outcome
body_at F rec t env s q = seen t q (outcome F (recorded rec) t (env ++ (q ∷ [])) (max s q))

body_from : (F : Formula) (rec : List ℕ) (t : ℕ) (env : List ℕ) (s q : ℕ) → From (max s q) (body_at F rec t env s q)
body_from F rec t env s q =
    from_seen (max s q) t q (outcome F (recorded rec) t (env ++ (q ∷ [])) (max s q)) (from_start F (recorded rec) t (env ++ (q ∷ [])) (max s q))

pub body_settled : (F : Formula) (rec : List ℕ) (t : ℕ) (env : List ℕ) (s n q : ℕ) (acc : Outcome) {start : ℕ} {b : Bool}
    → start ≡ max s q → b ≡ false_by acc start → b ≡ true → walk (body_at F rec t env s) n q acc ≡ acc
body_settled F rec t env s n q acc {start} {b} e f g =
    walk_done (body_at F rec t env s) start n q acc
    (λ p k. from_less (body_at F rec t env s p) (omega arith) (body_from F rec t env s p)) (sym f ∙ g)

module _ (left : ℕ) (ns : List ℕ) (i : ℕ) (rec : List ℕ) (t : ℕ) (e : Env) (s : ℕ) where
  -- the body's formula
  abbrev body : Formula
  body = formula_in left ns (e.depth + 1) (i + 12)

  -- what the evaluator answers at position q
  pub body_here : (q : ℕ) {e' : Env} {start : ℕ} {o : Outcome} → length e.pos ≡ 5 → e.depth < 4 → q ≤ t → e' ≡ entered e q → start ≡ max s q
      → o ≡ outcome (formula_in left ns e'.depth (i + 12)) (recorded rec) t (bound_positions e') start → o ≡ body_at body rec t (bound_positions e) s q
  body_here q {e'} {start} {o} l h k x y z =
      z
      ∙ ap (λ (w : Env). outcome (formula_in left ns w.depth (i + 12)) (recorded rec) t (bound_positions w) start) x
      ∙ ap (λ (w : List ℕ). outcome body (recorded rec) t w start) (places_more e q l h)
      ∙ ap (λ (w : ℕ). outcome body (recorded rec) t (bound_positions e ++ (q ∷ [])) w) y
      ∙ sym (seen_in t q (outcome body (recorded rec) t (bound_positions e ++ (q ∷ [])) (max s q)) k)

  -- what one evaluation answers for all positions that are left, where the body does not name the range's variable
  pub body_alike : (n q n₀ : ℕ) {o x acc' r : Outcome} {b : Bool} (acc : Outcome) → length e.pos ≡ 5 → e.depth < 4 → 0 < n → n ≤ suc t - q
      → b ≡ (ltb 1 n₀ && not (names (e.depth + 1) body)) → b ≡ true → o ≡ body_at body rec t (bound_positions e) s q
      → acc' ≡ both o acc → x ≡ raise (q + (n - 1)) o → r ≡ both x acc' → walk (body_at body rec t (bound_positions e) s) n q acc ≡ r
  body_alike n q n₀ {o} {x} {acc'} {r} {b} acc l h i k a c f g y z =
      unnamed_walk body (recorded rec) t (bound_positions e) s n q acc unnamed i (omega arith)
      ∙ ap (λ (w : Outcome). both w (both (raise (q + (n - 1)) w) acc)) (sym f)
      ∙ both_exchange o (raise (q + (n - 1)) o) acc
      ∙ ap₂ both (sym y) (sym g) ∙ sym z
    where
      bound : length (bound_positions e) ≡ e.depth + 1
      bound = length-take-le (suc e.depth) e.pos (omega arith) ∙ omega arith

      unnamed : names (length (bound_positions e)) body ≡ false
      unnamed = ap (λ (v : ℕ). names v body) bound ∙ not_named (ltb 1 n₀) (names (e.depth + 1) body) (sym a ∙ c)

  -- the plan is one for the definition's range
  pub plan_here : {r : Range} {first n : ℕ} {end : Outcome} → Evaluable (suc left) i t e → r ≡ range (bound_at ns (i + 1)) (bound_at ns (i + 4)) (clamped e.pos)
      → Plans r (clamped_at t) s first n end → Plans (range (bound_at ns (i + 1)) (bound_at ns (i + 4)) (bound_positions e)) t s first n end
  plan_here y x p =
      plans_same (x ∙ range_same (bound_at ns (i + 1)) (bound_at ns (i + 4)) (clamped e.pos) (bound_positions e) at) (clamped_at_same (omega (arith, y.early))) p
    where
      at : (v : ℕ) → get_or (clamped e.pos) v 0 ≡ get_or (bound_positions e) v 0
      at v = getD_clamped e.pos v ∙ clamped_at_same (omega (arith, y.within v, y.early)) ∙ place_at y v

  -- the walk of a plan is the "for all"
  pub by_forall : {first n : ℕ} {end : Outcome} → e.depth < 4 → Plans (range (bound_at ns (i + 1)) (bound_at ns (i + 4)) (bound_positions e)) t s first n end
      → outcome (forall_of_node left ns e.depth i) (recorded rec) t (bound_positions e) s ≡ walk (body_at body rec t (bound_positions e) s) n first end
  unfolding outcome
  by_forall h p = rw (lt-ltb e.depth 4 h) (p.same (body_at body rec t (bound_positions e) s) (λ q k. seen_out t q (outcome body (recorded rec) t (bound_positions e ++ (q ∷ [])) (max s q)) k))

  -- inside 4 quantifiers there is no fifth
  pub no_forall : 4 ≤ e.depth → forall_of_node left ns e.depth i ≡ flag 0 0
  no_forall h = rw (le-ltb e.depth 4 h)

-- ---- a walk that counts its positions up to an end

module _ (f : ℕ → Outcome) (end q : ℕ) (acc : Outcome) where
  -- the first positions are as many as the plan says
  pub walk_planned : (first n : ℕ) → end ≡ first + n → walk f (end - first) first acc ≡ walk f n first acc
  walk_planned first n e = ap (λ (k : ℕ). walk f k first acc) (omega arith)

  pub walk_further : {o r : Outcome} → q < end → o ≡ f q → r ≡ both o acc → walk f (end - q) q acc ≡ walk f (end - (q + 1)) (q + 1) r
  walk_further {o} {r} h e g = walk_step f (end - q) q acc (omega arith) e g ∙ ap (λ (k : ℕ). walk f k (q + 1) r) (omega arith)
