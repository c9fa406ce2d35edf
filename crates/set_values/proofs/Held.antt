-- The records that a set holds, as they go through words and back.
use Prim.Native.Nat.{ℕ, ◌≤◌, ◌<◌, min}
use mathlib.Core.Path.{◌≡◌, sym, ap, subst, ◌∙◌}
use mathlib.Core.Logic.{◌⊎◌, inl, inr}
use mathlib.Core.List.{List, ◌++◌, append-nil}
use native.Mathlib.Omega.{arith}
use lib.ListN.{length, take, drop, drop_of_length-le}
use lib.Seq.{take_all, take_at, drop_at}
use Rattle.rule.proofs.Order.{by_order}
use Rattle.demand.specs.declared.Running.{Running}
use Rattle.set_values.specs.declared.RuleSet.{RuleSet}
use Rattle.set_values.specs.Values.{held_rules, values_from, over, OthersKept}

module _ (values : RuleSet) (all : length values.rules ≡ 32) where
  -- The first records, as many as it holds.
  first_held : (n : ℕ) → n ≡ min values.lent 32 → take n values.rules ≡ held_rules values
  first_held n e = go (by_order values.lent 32)
    where
      go : (values.lent ≤ 32) ⊎ (32 < values.lent) → take n values.rules ≡ held_rules values
      go (inl few) = let n_is : n ≡ values.lent = omega (arith, e, few) in ap (λ (k : ℕ). take k values.rules) n_is
      go (inr many) = take_all n values.rules (omega (arith, e, many, all)) ∙ sym (take_all values.lent values.rules (omega (arith, many, all)))

  module _ (front : List Running) (size : length front ≡ min values.lent 32) where
    -- With others in their place it holds these, and the further ones are as they were.
    held_front : held_rules (values_from values front) ≡ front
    held_front = go (by_order values.lent 32)
      where
        go : (values.lent ≤ 32) ⊎ (32 < values.lent) → take values.lent (over front values.rules) ≡ front
        go (inl few) = take_at front (drop (length front) values.rules) values.lent (omega (arith, size, few))
        go (inr many) =
            ap (λ (rest : List Running). take values.lent (front ++ rest)) (drop_of_length-le values.rules {i = length front} (omega (arith, size, many, all)))
            ∙ ap (take values.lent) (append-nil front)
            ∙ take_all values.lent front (omega (arith, size, many))

    kept_front : drop values.lent (over front values.rules) ≡ drop values.lent values.rules
    kept_front = go (by_order values.lent 32)
      where
        go : (values.lent ≤ 32) ⊎ (32 < values.lent) → drop values.lent (over front values.rules) ≡ drop values.lent values.rules
        go (inl few) =
            let n_is : length front ≡ values.lent = omega (arith, size, few) in
            drop_at front (drop (length front) values.rules) values.lent n_is ∙ ap (λ (k : ℕ). drop k values.rules) n_is
        go (inr many) =
            ap (λ (rest : List Running). drop values.lent (front ++ rest)) (drop_of_length-le values.rules {i = length front} (omega (arith, size, many, all)))
            ∙ ap (drop values.lent) (append-nil front)
            ∙ drop_of_length-le front {i = values.lent} (omega (arith, size, many))
            ∙ sym (drop_of_length-le values.rules {i = values.lent} (omega (arith, many, all)))

-- What is said of the records as words before and after is said of those that the set holds.
pub by_words : (P : List Running → List Running → Type 0) (values result : RuleSet) (first last : List Running) (n : ℕ) → length values.rules ≡ 32 → n ≡ min values.lent 32
    → first ≡ take n values.rules → length last ≡ n → result ≡ values_from values last → P first last → P (held_rules values) (held_rules result) × OthersKept values result
by_words P values result first last n all e wrote size read p =
    let count : length last ≡ min values.lent 32 = size ∙ e in
    let now_held : last ≡ held_rules result = sym (ap held_rules read ∙ held_front values all last count) in (
      subst (λ (l : List Running). P (held_rules values) l) now_held (subst (λ (l : List Running). P l last) (wrote ∙ first_held values all n e) p),
      (ap (λ (v : RuleSet). v.lent) read, ap (λ (v : RuleSet). drop values.lent v.rules) read ∙ kept_front values all last count),
    )
