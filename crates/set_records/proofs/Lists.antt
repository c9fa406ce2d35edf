-- The lists that loading and saving go through, one place after another.
use Prim.Native.Nat.{ℕ, ◌+◌, ◌-◌, ◌≤◌, ◌<◌, min}
use mathlib.Core.Path.{◌≡◌, sym, ap, ◌∙◌}
use mathlib.Core.Logic.{◌⊎◌, inl, inr}
use mathlib.Core.List.{List, ◌++◌, append-nil}
use native.Mathlib.Omega.{arith}
use lib.ListN.{length, take, drop, replicate, length-replicate, length-take, drop_of_length-le, replicate-append-replicate}
use lib.Seq.{take-append_seam, take-append-add, take_at, drop_at, take_all, length_front, length-take-le, take-take, take-append-le}
use Rattle.rule.proofs.Order.{by_order}
use Rattle.demand.specs.declared.Running.{Running}
use Rattle.demand.specs.SetContract.{no_rule}
use Rattle.set_values.specs.declared.RuleSet.{RuleSet}
use Rattle.set_values.specs.Values.{held_rules}
use Rattle.set_values.proofs.Lists.{mixed}
use Rattle.set_records.specs.Lent.{loaded, saved}

-- Part of a list of equal elements.
take_same : {A : Type 0} (n k : ℕ) (x : A) → n ≤ k → take n (replicate k x) ≡ replicate n x
take_same {A} n k x h =
    let e : n + (k - n) ≡ k = omega arith in
    ap (λ (j : ℕ). take n (replicate j x)) (sym e) ∙ ap (take n) (sym (replicate-append-replicate n (k - n) x))
    ∙ take_at (replicate n x) (replicate (k - n) x) n (length-replicate n x)

drop_same : {A : Type 0} (n k : ℕ) (x : A) → n ≤ k → drop n (replicate k x) ≡ replicate (k - n) x
drop_same {A} n k x h =
    let e : n + (k - n) ≡ k = omega arith in
    ap (λ (j : ℕ). drop n (replicate j x)) (sym e) ∙ ap (drop n) (sym (replicate-append-replicate n (k - n) x))
    ∙ drop_at (replicate n x) (replicate (k - n) x) n (length-replicate n x)

-- ---- loading

-- What the first 32 places are taken from, and what stands there before.
abbrev pub supply : List Running → List Running
supply records = records ++ replicate 32 no_rule

abbrev pub blanks : List Running
blanks = replicate 32 no_rule

-- The set after so many records are loaded.
abbrev pub loading : List Running → ℕ → RuleSet
loading records n = record { rules = mixed (supply records) blanks n; lent = length records }

loading_all : (records : List Running) (n : ℕ) → n ≡ min (length records) 32 → loading records n ≡ loaded records
unfolding loaded
loading_all records n e = ap (λ (l : List Running). record { rules = l; lent = length records }) (by_length (by_order (length records) 32))
  where
    by_length : (length records ≤ 32) ⊎ (32 < length records) → mixed (supply records) blanks n ≡ take 32 (supply records)
    by_length (inl few) =
        let n_is : n ≡ length records = omega (arith, e, few) in
        let sum : length records + (32 - length records) ≡ 32 = omega (arith, few) in
        ap (mixed (supply records) blanks) n_is
        ∙ ap (λ (l : List Running). l ++ drop (length records) blanks) (take-append_seam records blanks)
        ∙ ap (λ (l : List Running). records ++ l) (drop_same (length records) 32 no_rule few ∙ sym (take_same (32 - length records) 32 no_rule (omega arith)))
        ∙ sym (take-append-add records blanks (32 - length records))
        ∙ ap (λ (k : ℕ). take k (supply records)) sum
    by_length (inr many) =
        let n_is : n ≡ 32 = omega (arith, e, many) in
        ap (mixed (supply records) blanks) n_is
        ∙ ap (λ (l : List Running). take 32 (supply records) ++ l) (drop_of_length-le blanks {i = 32} (omega (arith, length-replicate 32 no_rule)))
        ∙ append-nil (take 32 (supply records))

-- The first n records are put over records of no rule.
pub loaded_over : (records : List Running) (n : ℕ) (none : Running) (part : List Running) → none ≡ no_rule → n ≡ min (length records) 32 → part ≡ take n records
    → ◌≡◌ {A = RuleSet} (record { rules = part ++ drop n (replicate 32 none); lent = length records }) (loaded records)
loaded_over records n none part none_is e part_is =
    ap (λ (l : List Running). record { rules = l; lent = length records })
    (ap (λ (x : Running). part ++ drop n (replicate 32 x)) none_is
    ∙ ap (λ (l : List Running). l ++ drop n blanks) (part_is ∙ sym (take-append-le n records blanks (omega (arith, e)))))
    ∙ loading_all records n e

-- ---- saving

-- The records after so many are saved.
abbrev pub saving : List Running → RuleSet → ℕ → List Running
saving records values n = mixed values.rules records n

pub saving_length : (records : List Running) (values : RuleSet) (n : ℕ) → n ≤ length records → n ≤ length values.rules → length (saving records values n) ≡ length records
saving_length records values n h k = length_front records (take n values.rules) n (length-take-le n values.rules k ∙ sym (length-take-le n records h))

pub saving_all : (records : List Running) (values : RuleSet) (n : ℕ) → length values.rules ≡ 32 → n ≡ min (length records) 32 → saving records values n ≡ saved records values
unfolding saved
saving_all records values n all e = by_length (by_order (length records) 32)
  where
    by_length : (length records ≤ 32) ⊎ (32 < length records) → saving records values n ≡ take (length records) values.rules ++ drop 32 records
    by_length (inl few) =
        let n_is : n ≡ length records = omega (arith, e, few) in
        ap (mixed values.rules records) n_is
        ∙ ap (λ (l : List Running). take (length records) values.rules ++ l)
        (drop_of_length-le records {i = length records} (omega arith) ∙ sym (drop_of_length-le records {i = 32} few))
    by_length (inr many) =
        let n_is : n ≡ 32 = omega (arith, e, many) in
        ap (mixed values.rules records) n_is
        ∙ ap (λ (l : List Running). l ++ drop 32 records) (take_all 32 values.rules (omega (arith, all)) ∙ sym (take_all (length records) values.rules (omega (arith, all, many))))

-- ---- what a set has of the records

pub loaded_held : (records : List Running) → held_rules (loaded records) ≡ take 32 records
unfolding loaded
loaded_held records = by_length (by_order (length records) 32)
  where
    by_length : (length records ≤ 32) ⊎ (32 < length records) → take (length records) (take 32 (supply records)) ≡ take 32 records
    by_length (inl few) =
        take-take (length records) 32 (supply records) few ∙ take-append_seam records blanks ∙ sym (take_all 32 records few)
    by_length (inr many) =
        take_all (length records) (take 32 (supply records)) (omega (arith, many, length-take 32 (supply records)))
        ∙ take-append-le 32 records blanks (omega (arith, many))

pub saved_first : (records : List Running) (values : RuleSet) → length values.rules ≡ 32 → values.lent ≡ length records → take 32 (saved records values) ≡ held_rules values
unfolding saved
saved_first records values all e = by_length (by_order (length records) 32) ∙ ap (λ (n : ℕ). take n values.rules) (sym e)
  where
    by_length : (length records ≤ 32) ⊎ (32 < length records) → take 32 (take (length records) values.rules ++ drop 32 records) ≡ take (length records) values.rules
    by_length (inl few) =
        ap (λ (l : List Running). take 32 (take (length records) values.rules ++ l)) (drop_of_length-le records {i = 32} few)
        ∙ ap (take 32) (append-nil (take (length records) values.rules))
        ∙ take_all 32 (take (length records) values.rules) (omega (arith, few, length-take (length records) values.rules))
    by_length (inr many) =
        take_at (take (length records) values.rules) (drop 32 records) 32 (omega (arith, many, all, length-take (length records) values.rules))

pub saved_rest : (records : List Running) (values : RuleSet) → length values.rules ≡ 32 → drop 32 (saved records values) ≡ drop 32 records
unfolding saved
saved_rest records values all = by_length (by_order (length records) 32)
  where
    by_length : (length records ≤ 32) ⊎ (32 < length records) → drop 32 (take (length records) values.rules ++ drop 32 records) ≡ drop 32 records
    by_length (inl few) =
        ap (λ (l : List Running). drop 32 (take (length records) values.rules ++ l)) (drop_of_length-le records {i = 32} few)
        ∙ ap (drop 32) (append-nil (take (length records) values.rules))
        ∙ drop_of_length-le (take (length records) values.rules) {i = 32} (omega (arith, few, length-take (length records) values.rules))
        ∙ sym (drop_of_length-le records {i = 32} few)
    by_length (inr many) =
        drop_at (take (length records) values.rules) (drop 32 records) 32 (omega (arith, many, all, length-take (length records) values.rules))
