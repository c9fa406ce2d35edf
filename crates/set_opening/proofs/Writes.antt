-- The records of an opening, one after another.
use Prim.Native.Nat.{ℕ, zero, suc, ◌+◌, ◌*◌, ◌-◌, ◌≤◌, ◌<◌}
use mathlib.Core.Path.{◌≡◌, refl, sym, ap, ◌∙◌}
use mathlib.Core.List.{List, [], ◌∷◌, ◌++◌, append_assoc}
use native.Mathlib.Omega.{arith}
use native.Mathlib.Nat.{add-zero, zero-add, add-sub_cancel_left}
use lib.ListN.{length, get_or, take, drop, set}
use lib.Seq.{take-suc, take_all, drop-cons, set_at, length-take-le}
use Rattle.std.specs.Prelude.{Result, Ok}
use Rattle.std.specs.Result.{ResultUnwrapsOrElse}
use Rattle.refusal.specs.declared.Refusal.{Refusal}
use Rattle.refusal.specs.Answer.{refused, accepted, and_then}
use Rattle.refusal.proofs.Answers.{not_accepted, same_value}
use Rattle.words.specs.Words.{Bytes, word}
use Rattle.sheet.specs.declared.reader.BodyPlace.{BodyPlace}
use Rattle.sheet.specs.Sheet.{rule_count, body_offset, extent, rule_place, rule_body}
use Rattle.sheet.proofs.Entries.{place_told, place_inside, body_at, body_refused}
use Rattle.rule.specs.declared.Figures.{Figures}
use Rattle.rule.specs.Figures.{body_figures}
use Rattle.demand.specs.declared.Running.{Running}
use Rattle.demand.specs.SetContract.{no_rule, all_cells, bodies_from, opened_rule, opened_rules}
use Rattle.demand.specs.SetDemand.{no_figures}
use Rattle.demand.proofs.SetLists.{cells_prefix, all_figures_told}
use Rattle.demand.proofs.SetRules.{bodies_length, bodies_at, opened_rules_length}
use Rattle.set_admission.proofs.Added.{cells_next}
use Rattle.set_admission.proofs.Laying.{entry_is}
use Rattle.set_admission.proofs.Judged.{Together}

-- ---- one record

module _ (s : List ℕ) (i : ℕ) where
  -- What a place that is refused gives: no figures.
  pub no_place : {A : Type 0} (n : ℕ) (f : Figures) → refused n ≡ rule_place s i → and_then (rule_body s i) body_figures ≡ accepted f → A
  unfolding and_then
  no_place n f e h = absurd (not_accepted (rw (body_refused s i n (sym e)) at h))

  module _ (place : BodyPlace) (place_is : accepted place ≡ rule_place s i) where
    pub place_ends : place.start + place.size ≤ length s
    place_ends = place_inside s i place.start place.size (sym place_is)

    -- The figures of its body.
    figures_here : (f : Figures) → and_then (rule_body s i) body_figures ≡ accepted f → body_figures (take (place.start + place.size - place.start) (drop place.start s)) ≡ accepted f
    unfolding and_then
    figures_here f h = rw add-sub_cancel_left (rw (body_at s i place (sym place_is)) at h)

    pub no_figures_here : {A : Type 0} (n : ℕ) (f : Figures) → refused n ≡ body_figures (take (place.start + place.size - place.start) (drop place.start s))
        → and_then (rule_body s i) body_figures ≡ accepted f → A
    no_figures_here n f e h = absurd (not_accepted (e ∙ figures_here f h))

    fields : (place.start ≡ body_offset s i) × (place.size ≡ extent s i)
    fields =
        let t = place_told s i place (sym place_is) in
        (ap (λ (q : BodyPlace). q.start) t.1, ap (λ (q : BodyPlace). q.size) t.1)

    pub small_place : Bytes s → (place.start < 65536) × (place.size < 65536)
    unfolding body_offset extent word
    small_place b =
        let o = 1 + 4 * i in
        let e = 3 + 4 * i in
        (omega (arith, fields.0, b o, b (o + 1)), omega (arith, fields.1, b e, b (e + 1)))

    pub opened_here : (L first : ℕ) (g f : Figures) → accepted g ≡ body_figures (take (place.start + place.size - place.start) (drop place.start s))
        → and_then (rule_body s i) body_figures ≡ accepted f
        → record { start = place.start; size = place.size; first = first; cells = g.cells; delay = g.delay; opened = L; next = 0; live = 0 }
        ≡ opened_rule s L i first f
    opened_here L first g f here h = rw (fields.0, fields.1, same_value (here ∙ figures_here f h)) refl

-- The rule of an answer that is one.
pub unwrapped : (r : Result Running Refusal) (P : Running → Type 0) (rule x : Running) → ResultUnwrapsOrElse r P rule → r ≡ Ok x → rule ≡ x
unwrapped r P rule x h e = rw e at h

-- ---- one record more

module _ (s : List ℕ) (fs : List Figures) (t : Together s fs) where
  figures_there : (i : ℕ) → i < length fs → and_then (rule_body s i) body_figures ≡ accepted (get_or fs i no_figures)
  unfolding and_then
  figures_there i h =
      let n = rule_count s in
      let k : i < n = omega (arith, t.as_many) in
      let told = all_figures_told (bodies_from n s 0) fs t.bodies_are in
      let e = told.each i (rw (bodies_length n s 0) k) in
      rw (entry_is s t.laid i k) (rw (bodies_at n s 0 i k, zero-add i) at e)

module _ (s : List ℕ) (L : ℕ) where
  opened_next : (fs : List Figures) (k c : ℕ) (f : Figures)
      → opened_rules s L k c (fs ++ (f ∷ [])) ≡ opened_rules s L k c fs ++ (opened_rule s L (k + length fs) (c + all_cells fs) f ∷ [])
  unfolding opened_rules
  opened_next [] k c f = rw (add-zero k, add-zero c) refl
  opened_next (g ∷ fs) k c f =
      let a : k + suc (length fs) ≡ suc k + length fs = omega arith in
      let b : c + (g.cells + all_cells fs) ≡ (c + g.cells) + all_cells fs = omega arith in
      rw (a, b) (ap (λ (l : List Running). opened_rule s L k c g ∷ l) (opened_next fs (suc k) (c + g.cells) f))

  -- no tick is taken yet
  pub not_begun : (fs : List Figures) (k c i : ℕ) → (get_or (opened_rules s L k c fs) i no_rule).next ≡ 0
  unfolding opened_rules
  not_begun [] k c i = refl
  not_begun (g ∷ fs) k c zero = refl
  not_begun (g ∷ fs) k c (suc i) = not_begun fs (suc k) (c + g.cells) i

  -- The first i records are written.
  pub record Written (rules₀ rules : List Running) (first i : ℕ) (fs : List Figures) : Type 0 where
    pub first-is : first ≡ all_cells (take i fs)
    pub rules_are : rules ≡ opened_rules s L 0 0 (take i fs) ++ drop i rules₀

  pub written_none : (rules : List Running) (fs : List Figures) → Written rules rules 0 0 fs
  unfolding opened_rules
  written_none rules fs = record { first-is = refl; rules_are = refl }

  module _ (rules₀ rules : List Running) (first i : ℕ) (fs : List Figures) (w : Written rules₀ rules first i fs) where
    pub written_all : length fs ≤ i → i ≤ length fs → rules ≡ opened_rules s L 0 0 fs ++ drop (length fs) rules₀
    written_all h g =
        let e : i ≡ length fs = omega arith in
        w.rules_are ∙ rw (e, take_all (length fs) fs (omega arith)) refl

    module _ (t : Together s fs) where
      pub first_low : first ≤ 4096
      first_low = omega (arith, w.first-is, cells_prefix fs i, t.few)

      module _ (h : i < length fs) (room : length fs ≤ length rules₀) (rule : Running)
          (rule_is : (f : Figures) → and_then (rule_body s i) body_figures ≡ accepted f → rule ≡ opened_rule s L i first f) where
        abbrev f : Figures
        f = get_or fs i no_figures

        abbrev done : List Running
        done = opened_rules s L 0 0 (take i fs)

        front : take (i + 1) fs ≡ take i fs ++ (f ∷ [])
        front = let q : i + 1 ≡ suc i = omega arith in rw q (take-suc fs i no_figures h)

        here : rule ≡ opened_rule s L i first f
        here = rule_is f (figures_there s fs t i h)

        length_front : length (take i fs) ≡ i
        length_front = length-take-le i fs (omega arith)

        done_next : opened_rules s L 0 0 (take (i + 1) fs) ≡ done ++ (rule ∷ [])
        done_next =
            rw (front, here, w.first-is)
            (rw (length_front, zero-add i, zero-add (all_cells (take i fs))) at (opened_next (take i fs) 0 0 f))

        pub written_next : (rules' : List Running) → rules' ≡ set rules i rule → Written rules₀ rules' (first + rule.cells) (i + 1) fs
        written_next rules' e =
            let q : i + 1 ≡ suc i = omega arith in
            let c : all_cells (take i fs ++ (f ∷ [])) ≡ all_cells (take i fs) + f.cells = cells_next (take i fs) f in
            let g : rule.cells ≡ f.cells = ap (λ (r : Running). r.cells) here in
            let stored : set (done ++ drop i rules₀) i rule ≡ done ++ (rule ∷ drop (suc i) rules₀) =
            rw (drop-cons rules₀ i no_rule (omega arith)) (set_at done (get_or rules₀ i no_rule) (drop (suc i) rules₀) rule i (opened_rules_length s L 0 0 (take i fs) ∙ length_front)) in
            record {
              first-is = rw front (omega (arith, c, g, w.first-is));
              rules_are = e ∙ ap (λ (l : List Running). set l i rule) w.rules_are ∙ stored ∙ rw (done_next, q) (sym (append_assoc done (rule ∷ []) (drop (suc i) rules₀)));
            }
