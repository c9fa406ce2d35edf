-- Laws of stores: nothing, one byte, and one text after another.
use Prim.Native.Nat.{ℕ, ◌+◌, ◌-◌, ◌≤◌, ◌<◌}
use mathlib.Core.Path.{◌≡◌, refl, ap, sym, ◌∙◌, subst}
use mathlib.Core.List.{List, [], ◌∷◌, ◌++◌, append_assoc, append-nil}
use native.Mathlib.Numerals.{add-one}
use native.Mathlib.Omega.{arith}
use lib.ListN.{length, take, drop, set, get_or, length-append, length-drop, length-set}
use lib.Seq.{take-suc, take-suc-set, take-length, length-take-le}
use borrow.Rule.Slice.PartMut.{put_mid, same_len_mid}
use Rattle.std.proofs.lemmas.Slice.{take-put_mid}
use Rattle.body_to_text.specs.Storing.{Wrote}

pub wrote_none : (l : List ℕ) (at : ℕ) → Wrote [] l at l at
wrote_none l at = record { kept = refl; wrote = λ h. (omega arith, sym (append-nil (take at l))) }

pub wrote_byte : (l : List ℕ) (at b : ℕ) → at < length l → Wrote (b ∷ []) l at (set l at b) (at + 1)
wrote_byte l at b h = record { kept = length-set l at b; wrote = λ _. (refl, rw add-one (take-suc-set l at b h)) }

-- past the buffer's end
pub wrote_past : (l : List ℕ) (at b : ℕ) → length l ≤ at → Wrote (b ∷ []) l at l at
wrote_past l at b h = record { kept = refl; wrote = λ k. absurd (omega arith) }

pub wrote_then : {t u old mid new : List ℕ} {at next last : ℕ} → Wrote t old at mid next → Wrote u mid next new last → Wrote (t ++ u) old at new last
wrote_then {t} {u} {old} {mid} {new} {at} {next} {last} a b = record { kept = b.kept ∙ a.kept; wrote = both }
  where
    both : at + length (t ++ u) ≤ length old → (last ≡ at + length (t ++ u)) × (take last new ≡ take at old ++ (t ++ u))
    both h =
        let x = a.wrote (omega (arith, length-append t u)) in
        let y = b.wrote (omega (arith, length-append t u, x.0, a.kept)) in (
          omega (arith, length-append t u, x.0, y.0),
          y.1 ∙ ap (λ (l : List ℕ). l ++ u) x.1 ∙ append_assoc (take at old) t u,
        )

-- The same text, written otherwise.
pub wrote_as : {t u old new : List ℕ} {at next : ℕ} → t ≡ u → Wrote t old at new next → Wrote u old at new next
wrote_as {t} {u} {old} {new} {at} {next} e w = subst (λ (v : List ℕ). Wrote v old at new next) e w

-- A word, copied into its place; and one for which there is no room.
pub wrote_copied : (l word part : List ℕ) (at end k : ℕ) → end ≡ at + length word → end ≤ length l → k ≡ end - at → part ≡ word → Wrote word l at (put_mid at k l part) end
wrote_copied l word part at end k e fits k_is same =
    let long : length part ≡ length word = ap length same in
    record {
      kept = same_len_mid at k l part (long ∙ omega (arith, length-take-le k (drop at l) (omega (arith, length-drop at l))));
      wrote = λ h. (e, take-put_mid at k l part end (omega arith) (omega arith) ∙ ap (λ (w : List ℕ). take at l ++ w) same);
    }

pub wrote_no_room : (l word : List ℕ) (at : ℕ) → length l < at + length word → Wrote word l at l at
wrote_no_room l word at h = record { kept = refl; wrote = λ k. absurd (omega arith) }

-- A word, byte by byte.
pub wrote_more : {old mid new : List ℕ} {at next last : ℕ} (word : List ℕ) (i : ℕ) → i < length word
    → Wrote (take i word) old at mid next → Wrote (get_or word i 0 ∷ []) mid next new last → Wrote (take (i + 1) word) old at new last
wrote_more word i h a b = wrote_as (rw add-one (sym (take-suc word i 0 h))) (wrote_then a b)

pub wrote_word : {old new : List ℕ} {at next : ℕ} (word : List ℕ) (i : ℕ) → i ≡ length word → Wrote (take i word) old at new next
    → Wrote word old at new next
wrote_word word i e w = wrote_as (ap (λ (n : ℕ). take n word) e ∙ take-length word) w

-- A text stored from the start on, where there is room for it.
pub wrote_whole : {t old new : List ℕ} {next : ℕ} → Wrote t old 0 new next → length t ≤ length new → (next ≡ length t) × (take next new ≡ t)
wrote_whole w h = let x = w.wrote (omega (arith, w.kept)) in (omega (arith, x.0), x.1)
