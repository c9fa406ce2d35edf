-- The fields of a rule in the words of a record: two share a word, and one has two words. A rule that is stored and read again is the same, and so are words that are
-- read and stored again.
use Prim.Native.Nat.{ℕ, ◌+◌, ◌*◌, ◌%◌, ◌/◌, ◌<◌}
use native.Mathlib.Omega.{arith}
use mathlib.Core.Path.{◌≡◌, refl, ap, ◌∙◌}
use mathlib.Core.List.{List, [], ◌∷◌, map}
use lib.ListN.{length, get_or, set}
use Rattle.std.proofs.lemmas.List.{map-set}
use Rattle.demand.specs.declared.Running.{Running}
use Rattle.running.specs.Records.{rule_in, words_of}

low_half : (d o : ℕ) → d < 65536 → (d + 65536 * o) % 65536 ≡ d
low_half d o low = omega (arith, low)

high_half : (d o : ℕ) → d < 65536 → (d + 65536 * o) / 65536 ≡ o
high_half d o low = omega (arith, low)

both_words : (t : ℕ) → t % 4294967296 + 4294967296 * (t / 4294967296) ≡ t
both_words t = omega arith

pub read_again : (rule : Running) → rule.delay < 65536 → rule_in (words_of rule) ≡ rule
read_again rule low = rw (low_half rule.delay rule.opened low, high_half rule.delay rule.opened low, both_words rule.next) refl

-- Words that a rule is stored as, put in a record's place, are read as the rule there.
pub stored : (records : List (List ℕ)) (index : ℕ) (rule : Running) (words : List ℕ) → words ≡ words_of rule → rule.delay < 65536
    → map rule_in (set records index words) ≡ set (map rule_in records) index rule
stored records index rule words e low =
    map-set rule_in records index words ∙ ap (set (map rule_in records) index) (ap rule_in e ∙ read_again rule low)

both_halves : (w : ℕ) → w % 65536 + 65536 * (w / 65536) ≡ w
both_halves w = omega arith

low_word : (l h : ℕ) → l < 4294967296 → (l + 4294967296 * h) % 4294967296 ≡ l
low_word l h low = omega (arith, low)

high_word : (l h : ℕ) → l < 4294967296 → (l + 4294967296 * h) / 4294967296 ≡ h
high_word l h low = omega (arith, low)

pub stored_again : (words : List ℕ) → length words ≡ 8 → get_or words 6 0 < 4294967296 → words_of (rule_in words) ≡ words
stored_again (a ∷ b ∷ c ∷ d ∷ e ∷ f ∷ g ∷ h ∷ []) n low = rw (both_halves e, low_word g h low, high_word g h low) refl
stored_again [] n low = absurd (omega arith)
stored_again (a ∷ []) n low = absurd (omega arith)
stored_again (a ∷ b ∷ []) n low = absurd (omega arith)
stored_again (a ∷ b ∷ c ∷ []) n low = absurd (omega arith)
stored_again (a ∷ b ∷ c ∷ d ∷ []) n low = absurd (omega arith)
stored_again (a ∷ b ∷ c ∷ d ∷ e ∷ []) n low = absurd (omega arith)
stored_again (a ∷ b ∷ c ∷ d ∷ e ∷ f ∷ []) n low = absurd (omega arith)
stored_again (a ∷ b ∷ c ∷ d ∷ e ∷ f ∷ g ∷ []) n low = absurd (omega arith)
stored_again (a ∷ b ∷ c ∷ d ∷ e ∷ f ∷ g ∷ h ∷ i ∷ rest) n low = absurd (omega arith)

-- What is read, with the three fields that are not a word each.
abbrev pub rule_with : List ℕ → ℕ → ℕ → ℕ → Running
rule_with words delay opened next =
    record {
      start = get_or words 0 0;
      size = get_or words 1 0;
      first = get_or words 2 0;
      cells = get_or words 3 0;
      delay = delay;
      opened = opened;
      live = get_or words 5 0;
      next = next;
    }

pub reads_so : (words : List ℕ) (delay opened next : ℕ) → delay ≡ get_or words 4 0 % 65536 → opened ≡ get_or words 4 0 / 65536 → next ≡ get_or words 6 0 + 4294967296 * get_or words 7 0
    → rule_with words delay opened next ≡ rule_in words
reads_so words delay opened next d o n = rw (d, o, n) refl
