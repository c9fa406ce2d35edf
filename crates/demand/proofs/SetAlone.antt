-- "Each rule's part equals what it reports when opened by itself, for every list of bytes."
use Prim.Native.Nat.{ℕ, ◌*◌, ◌<◌}
use mathlib.Core.Path.{◌≡◌, sym, ap, subst, ◌∙◌}
use mathlib.Core.List.{List, [], ◌++◌}
use native.Mathlib.Nat.{zero-add}
use native.Mathlib.Omega.{arith}
use lib.ListN.{length, get_or, drop, take-append-drop}
use Rattle.refusal.specs.Answer.{accepted}
use Rattle.refusal.proofs.Answers.{same_value}
use Rattle.sheet.specs.Sheet.{rule_body}
use Rattle.sheet.proofs.Entries.{body_told}
use Rattle.rule.specs.Formula.{Formula}
use Rattle.rule.specs.Body.{body}
use Rattle.rule.specs.Recording.{recorded}
use Rattle.rule.specs.Steps.{live}
use Rattle.demand.specs.Contract.{Invariant, Carrier}
use Rattle.demand.specs.Demand.{stream, false_at_step, Report}
use Rattle.demand.specs.SetContract.{SetTaken, SetStep, all_numbered, how_many, ticks_of}
use Rattle.demand.specs.SetDemand.{set_stream, no_formula, reports, SetReport, SetWatched, Watched, AsAlone}
use Rattle.demand.proofs.Theorem as one_rule
use Rattle.demand.proofs.SetLists.{ticks_all_numbered}
use Rattle.demand.proofs.SetRules.{sheet_told}
use Rattle.demand.proofs.SetTheorem.{reports_length, reports_at, lives_of, lives_at, set_demand_3}

-- The ticks of rule i among the pairs of a step.
ticks_told : (Fs : List Formula) (bytes : List ℕ) (t : ℕ) (k : SetStep) (a : SetTaken) → SetReport Fs bytes t k a → (i : ℕ) → i < length Fs
    → ticks_of i a.pairs k.report' ≡ false_at_step (get_or Fs i no_formula) bytes t
ticks_told Fs bytes t k a r i h =
    let all = reports Fs bytes t in
    let rest = drop (2 * a.pairs) k.report' in
    let e : k.report' ≡ all_numbered 0 all ++ rest = sym (take-append-drop (2 * a.pairs) k.report') ∙ ap (λ (l : List ℕ). l ++ rest) r.words in
    ap (ticks_of i a.pairs) e
    ∙ ap (λ (n : ℕ). ticks_of i n (all_numbered 0 all ++ rest)) r.count
    ∙ ap (λ (j : ℕ). ticks_of j (how_many all) (all_numbered 0 all ++ rest)) (sym (zero-add i))
    ∙ ticks_all_numbered 0 i all rest (omega (arith, reports_length Fs bytes t))
    ∙ reports_at Fs bytes t i h

module _ (Stands Stands₁ : Invariant) (C : Carrier) (s : SetWatched Stands) (o : Watched Stands₁ C) (same_sheet : o.opening.sheet ≡ s.opening.sheet) where
  abbrev i : ℕ
  i = o.opening.rule

  -- A rule that was opened by itself is one of the set's.
  bytes_there : rule_body s.opening.sheet i ≡ accepted o.acceptable.body_bytes
  bytes_there = ap (λ (l : List ℕ). rule_body l i) (sym same_sheet) ∙ o.acceptable.bytes_are

  in_bodies : i < length s.acceptable.bodies
  in_bodies =
      let sheet = s.opening.sheet in
      let known = body_told sheet i o.acceptable.body_bytes bytes_there in
      omega (arith, known.0.below, (sheet_told sheet s.acceptable.bodies s.acceptable.bodies_are).as_many)

  in_formulas : i < length s.Fs
  in_formulas = omega (arith, in_bodies, s.acceptable.as_many_formulas)

  same_rule : get_or s.Fs i no_formula ≡ o.F
  same_rule =
      let told = sheet_told s.opening.sheet s.acceptable.bodies s.acceptable.bodies_are in
      let b : get_or s.acceptable.bodies i [] ≡ o.acceptable.body_bytes = same_value (sym (told.body_of i in_bodies) ∙ bytes_there) in
      same_value (sym (s.acceptable.formula_is i in_bodies) ∙ ap body b ∙ o.acceptable.formula_is)

pub as_alone : (Stands Stands₁ : Invariant) (C : Carrier) → AsAlone Stands Stands₁ C
as_alone Stands Stands₁ C s o same_sheet same_stream before k after cut a took before₁ k₁ after₁ cut₁ a₁ took₁ same_tick =
    let i = o.opening.rule in
    let bytes = set_stream s.calls in
    let t = length (set_stream before) in
    let below : i < length s.Fs = in_formulas Stands Stands₁ C s o same_sheet in
    let same : get_or s.Fs i no_formula ≡ o.F = same_rule Stands Stands₁ C s o same_sheet in
    let x : SetReport s.Fs bytes t k a =
    (((set_demand_3 Stands s.opening s.promise).demand_3 s.given s.answered s.Fs s.needs s.acceptable s.calls s.run).every_step before k after cut
    ).report a took in
    let y₀ : Report o.F (stream o.calls) (length (stream before₁)) k₁ a₁ =
    (((one_rule.demand_3 Stands₁ C o.carried o.carried' o.opening o.promise).demand_3 o.state o.answered o.F o.needs o.acceptable o.calls o.run
    ).every_step before₁ k₁ after₁ cut₁).report a₁ took₁ in
    let y : Report o.F bytes t k₁ a₁ =
    subst (λ (n : ℕ). Report o.F bytes n k₁ a₁) same_tick (subst (λ (l : List ℕ). Report o.F l (length (stream before₁)) k₁ a₁) same_stream y₀) in (
      ticks_told s.Fs bytes t k a x i below ∙ ap (λ (F : Formula). false_at_step F bytes t) same ∙ sym y.words,
      sym (lives_of a.running i) ∙ ap (λ (l : List ℕ). get_or l i 0) x.open_ticks ∙ lives_at s.Fs bytes t i below
          ∙ ap (λ (F : Formula). length (live F (recorded bytes) t)) same ∙ sym y.open_ticks,
    )
