-- What a call of the cycle requires, from what its caller was given.
use Prim.Native.Nat.{ℕ, suc, ◌+◌, ◌*◌, ◌-◌, ◌≤◌, ◌<◌, max}
use mathlib.Core.Path.{◌≡◌, sym, ap, subst, ◌∙◌}
use mathlib.Core.Logic.{⊎_elim}
use mathlib.Core.List.{List, [], ◌∷◌, ◌++◌}
use native.Mathlib.Omega.{arith}
use native.Mathlib.Numerals.{add-one}
use native.Mathlib.Nat.{mul-le-mul_right}
use native.Mathlib.Decide.{dec_lt}
use lib.ListN.{length, take, drop, length-set, length-drop, length-append, get_or-append}
use lib.Seq.{length-take-le, get_or-set_other}
use Rattle.rule.specs.Formula.{Bound}
use Rattle.rule.specs.Meaning.{range}
use Rattle.rule.specs.Figures.{range_pair, width}
use Rattle.rule.specs.declared.Outcome.{Outcome}
use Rattle.rule.specs.Positions.{Fits, Lies, Within}
use Rattle.rule.proofs.Pairs.{fits_more, range_lies, width_holds}
use Rattle.rule.proofs.Reach.{at_most}
use Rattle.cell_count.specs.Counts.{cap}
use Rattle.cell_count.proofs.Saturation.{cap_most}
use Rattle.ranges.specs.Plans.{Plans}
use Rattle.ranges.proofs.Places.{set_within}
use Rattle.cell_runs.specs.Tree.{Tree, flag_node, not_node, then_node, beside_node, range_node, words, Formed}
use Rattle.cell_runs.specs.Leading.{HeadFit}
use Rattle.cell_runs.specs.Run.{with_position, own_tick}
use Rattle.cell_runs.specs.Calls.{Variables, places, with_byte, Fit, SlotFit, WalkFit, PartFit}
use Rattle.cell_runs.proofs.Parts.{tick_is}
use Rattle.cell_runs.proofs.Positions.{places_entered}

-- ---- length of a part

pub window_length : (a z : ℕ) (run : List ℕ) → z ≤ length run → length (take (z - a) (drop a run)) ≡ z - a
window_length a z run h =
    let d : length (drop a run) ≡ length run - a = length-drop a run in
    length-take-le (z - a) (drop a run) (omega arith)

-- ---- one more position

pub fit_entered : (F : Tree) (e : Variables) (t q b len n : ℕ) → SlotFit F e t q len → n ≡ len → PartFit F (with_byte e q b) t 0 4 n n
fit_entered F e t q b len n f en =
    let room : 4 + words f.pairs F ≤ len = f.room in
    let le : 4 ≤ len = omega arith in
    let deep : e.known < 5 = f.few in
    let w : length e.pos ≡ 5 = f.five_places in
    let pe : places (with_byte e q b) ≡ with_position (places e) q = places_entered e q b deep f.five_places f.five_bytes in
    rw en (record {
      fit = record {
        pairs = f.pairs;
        fits = subst (λ (env : List ℕ). Fits (own_tick env) f.pairs env) (sym pe) f.fits;
        size = f.size ∙ sym (add-one e.known);
        formed = f.formed;
        room = omega arith;
        low = f.low;
        near = subst (λ (env : List ℕ). t < own_tick env + 4294967296) (sym pe) f.near;
        past = set_within e.pos e.known q t f.past f.come;
        unbound = λ v h. get_or-set_other e.pos e.known v q 0 (omega arith) ∙ f.unbound v (omega arith);
        five_places = length-set e.pos e.known q ∙ f.five_places;
        five_bytes = length-set e.bytes e.known b ∙ f.five_bytes;
        few = omega arith;
        some = omega arith;
      };
      cell = omega arith;
      after_cell = omega arith;
      ordered = le;
      inside = omega arith;
    })

-- ---- the positions of a range

module _ {F : Tree} {B₁ B₂ : Bound} {z : ℕ} {e : Variables} {t len : ℕ} (f : Fit (range_node B₁ B₂ z F) e t len) where
  -- the positions that the run has slots for
  abbrev w : ℕ
  w = cap (width (range_pair B₁ B₂ f.pairs))

  pub fit_head : 4 ≤ len
  unfolding words
  fit_head = let r : 4 + w * z ≤ len = f.room in omega arith

  pub fit_long : length (places e) ≡ e.known
  fit_long = let a : length e.pos ≡ 5 = f.five_places in let d : e.known ≤ 5 = f.few in length-take-le e.known e.pos (omega arith)

  -- there are no more than W
  fit_few : (s first n : ℕ) (end : Outcome) → Plans (range B₁ B₂ (places e)) t s first n end → n ≤ w
  unfolding Formed
  fit_few s first n end p = elim (dec_lt 0 n) [
    | no l ↦ omega arith
    | yes l ↦
        let h : Within (width (range_pair B₁ B₂ f.pairs)) w = f.formed.1.0 in
        let a : Lies (own_tick (places e)) (range_pair B₁ B₂ f.pairs) first = subst (Lies (own_tick (places e)) (range_pair B₁ B₂ f.pairs)) (same first) (range_lies B₁ B₂ f.fits (first + 0) (p.inside 0 l)) in
        let c : Lies (own_tick (places e)) (range_pair B₁ B₂ f.pairs) (first + (n - 1)) = range_lies B₁ B₂ f.fits (first + (n - 1)) (p.inside (n - 1) (omega arith)) in
        let m : suc (first + (n - 1)) - first ≤ w = at_most (width (range_pair B₁ B₂ f.pairs)) (suc (first + (n - 1)) - first) w (width_holds (own_tick (places e)) (range_pair B₁ B₂ f.pairs) first (first + (n - 1)) a c) h in
        omega arith
  ]
    where
      same : (n : ℕ) → n + 0 ≡ n
      same n = omega arith

  -- and a word can count them
  pub fit_short : (s first n : ℕ) (end : Outcome) → Plans (range B₁ B₂ (places e)) t s first n end → n < 4294967296
  fit_short s first n end p = omega (arith, fit_few s first n end p, cap_most (width (range_pair B₁ B₂ f.pairs)))

  -- a range with a position has room for its body
  body : 0 < w → (4 + words (f.pairs ++ (range_pair B₁ B₂ f.pairs ∷ [])) F ≤ z) × Formed (f.pairs ++ (range_pair B₁ B₂ f.pairs ∷ [])) F
  unfolding Formed
  body h = ⊎_elim (λ e. absurd (omega arith)) (λ y. y) f.formed.1.1

  fit_slot : (s first n : ℕ) (end : Outcome) → Plans (range B₁ B₂ (places e)) t s first n end → (j : ℕ) → j < n → SlotFit F e t (first + j) z
  unfolding Formed
  fit_slot s first n end p j h =
      let few : n ≤ suc t - first = p.few in
      let most : n ≤ w = fit_few s first n end p in
      let inner = body (omega arith) in
      let eb : own_tick (with_position (places e) (first + j)) ≡ own_tick (places e) = let l : length (places e) ≡ e.known = fit_long in let so : 0 < e.known = f.some in get_or-append (places e) ((first + j) ∷ []) 0 0 (omega arith) in
      record {
        pairs = f.pairs ++ (range_pair B₁ B₂ f.pairs ∷ []);
        fits = subst (λ (b : ℕ). Fits b (f.pairs ++ (range_pair B₁ B₂ f.pairs ∷ [])) (with_position (places e) (first + j))) (sym eb) (fits_more f.fits (range_lies B₁ B₂ f.fits (first + j) (p.inside j h)));
        size = length-append f.pairs (range_pair B₁ B₂ f.pairs ∷ []) ∙ ap (λ (n : ℕ). n + 1) f.size ∙ add-one e.known;
        formed = inner.1;
        room = inner.0;
        low = f.low;
        near = subst (λ (b : ℕ). t < b + 4294967296) (sym eb) f.near;
        come = omega arith;
        past = f.past;
        unbound = f.unbound;
        five_places = f.five_places;
        five_bytes = f.five_bytes;
        few = subst (λ (n : ℕ). n < 5) f.size f.formed.0;
      }

  pub fit_walk : (s first leading n z' len' : ℕ) (end : Outcome) → leading ≤ n → z' ≡ z → len' ≡ len - 4 → Plans (range B₁ B₂ (places e)) t s first n end → WalkFit F e t first leading n z' len'
  unfolding words
  fit_walk s first leading n z' len' end le ez el p =
      let r : 4 + w * z ≤ len = f.room in
      let few : n ≤ w = fit_few s first n end p in
      let m : n * z ≤ w * z = mul-le-mul_right z few in
      rw ez (record { slots = fit_slot s first n end p; room = omega arith; within = le })

  pub fit_store : (s first leading n z' len' : ℕ) (end : Outcome) → leading ≤ n → z' ≡ z → len' ≡ len → Plans (range B₁ B₂ (places e)) t s first n end → HeadFit z' n leading len'
  unfolding words Formed
  fit_store s first leading n z' len' end le ez el p =
      let r : 4 + w * z ≤ len = f.room in
      let few : n ≤ w = fit_few s first n end p in
      let m : n * z ≤ w * z = mul-le-mul_right z few in
      rw ez (record { room = omega arith; slots = λ some. let wide : 4 + words (f.pairs ++ (range_pair B₁ B₂ f.pairs ∷ [])) F ≤ z = (body (omega arith)).0 in omega arith; within = le })

-- ---- the other formulas

-- another formula of the same variables
fit_as : (F : Tree) {G : Tree} {e : Variables} {t len : ℕ} (len' : ℕ) (f : Fit G e t len) → Formed f.pairs F → words f.pairs F ≤ len' → Fit F e t len'
fit_as F len' f h r = record {
  pairs = f.pairs;
  fits = f.fits;
  size = f.size;
  formed = h;
  room = r;
  low = f.low;
  near = f.near;
  past = f.past;
  unbound = f.unbound;
  five_places = f.five_places;
  five_bytes = f.five_bytes;
  few = f.few;
  some = f.some;
}

pub fit_first : {F G : Tree} {e : Variables} {t len : ℕ} → Fit (then_node F G) e t len → PartFit F e t 0 4 len len
unfolding words Formed
fit_first {F} {G} {e} {t} {len} f =
    let r : 4 + max (words f.pairs F) (words f.pairs G) ≤ len = f.room in
    record { fit = fit_as F (len - 4) f f.formed.0 (omega arith); cell = omega arith; after_cell = omega arith; ordered = omega arith; inside = omega arith }

pub fit_second : {F G : Tree} {e : Variables} {t len : ℕ} → Fit (then_node F G) e t len → Fit G e t (len - 4)
unfolding words Formed
fit_second {F} {G} {e} {t} {len} f =
    let r : 4 + max (words f.pairs F) (words f.pairs G) ≤ len = f.room in
    fit_as G (len - 4) f f.formed.1 (omega arith)

-- the sizes and places that are read off the node are its own
pub fit_beside : (e : Variables) (t len : ℕ) (F : Tree) (G : ℕ → Tree) {w w' g g' : ℕ} → w' ≡ w → g' ≡ g → Fit (beside_node w F (G g)) e t len → Fit (beside_node w' F (G g')) e t len
fit_beside e t len F G ew eg f = rw (ew, eg) f

pub fit_left : {w : ℕ} {F G : Tree} {e : Variables} {t len : ℕ} → Fit (beside_node w F G) e t len → PartFit F e t 0 4 (4 + w) len
unfolding words Formed
fit_left {w} {F} {G} {e} {t} {len} f =
    let r : 4 + w + words f.pairs G ≤ len = f.room in
    let g : words f.pairs F ≤ w = f.formed.0 in
    record { fit = fit_as F (4 + w - 4) f f.formed.1.0 (omega arith); cell = omega arith; after_cell = omega arith; ordered = omega arith; inside = omega arith }

pub fit_right : {w : ℕ} {F G : Tree} {e : Variables} {t len : ℕ} (n : ℕ) → n ≡ len → Fit (beside_node w F G) e t len → PartFit G e t 1 (4 + w) len n
unfolding words Formed
fit_right {w} {F} {G} {e} {t} {len} n en f =
    let r : 4 + w + words f.pairs G ≤ len = f.room in
    record { fit = fit_as G (len - (4 + w)) f f.formed.1.1 (omega arith); cell = omega arith; after_cell = omega arith; ordered = omega arith; inside = omega arith }

pub fit_not : {F : Tree} {e : Variables} {t len : ℕ} → Fit (not_node F) e t len → Fit F e t len
unfolding words Formed
fit_not {F} {e} {t} {len} f = fit_as F len f f.formed f.room

pub fit_flag : {v k : ℕ} {e : Variables} {t len : ℕ} → Fit (flag_node v k) e t len → v < e.known
unfolding Formed
fit_flag {v} {k} {e} {t} {len} f = subst (λ (n : ℕ). v < n) f.size f.formed

-- the rule's tick has come
pub fit_come : {F : Tree} {e : Variables} {t len : ℕ} → Fit F e t len → own_tick (places e) ≤ t
fit_come {F} {e} {t} {len} f = subst (λ (n : ℕ). n ≤ t) (tick_is e f.some) (f.past 0)
