-- Laws of lists in the order of a report: what is listed after a violation is put in, that the list still ascends, and that lists that ascend and list the same are equal.
use mathlib.Core.Path.{◌≡◌, refl, sym, ap, ap₂, subst, ◌∙◌}
use mathlib.Core.Bool.{Bool, true, false, cond, ◌||◌, false≢true}
use mathlib.Core.List.{List, [], ◌∷◌}
use Rattle.refusal.proofs.Bools.{or_false}
use Rattle.complete_report.specs.declared.Violation.{Violation}
use Rattle.complete_report.specs.Lists.{same, listed}
use Rattle.complete_report.specs.Order.{before, insert, Ascending}
use Rattle.complete_report.proofs.Orders.{same_self, same_equal, equal_same, not_same, transitive, asymmetric, total_order, irreflexive}

or_swap : (a b c : Bool) → (a || (b || c)) ≡ (b || (a || c))
or_swap true true c = refl
or_swap true false c = refl
or_swap false b c = refl

-- One of two tests that hold together.
pub or_true : (a b : Bool) (A : Type 0) → (a || b) ≡ true → (a ≡ true → A) → (a ≡ false → b ≡ true → A) → A
or_true true b A e left right = left refl
or_true false b A e left right = right refl e

pub same_sym : (v w : Violation) → same v w ≡ false → same w v ≡ false
same_sym v w h = not_same w v (λ p q. false≢true (sym h ∙ equal_same v w (sym (same_of p q))))
  where
    same_of : w.tick ≡ v.tick → w.step ≡ v.step → w ≡ v
    same_of p q = ap₂ (λ tick step. record { tick = tick; step = step }) p q

-- ---- what is listed

pub listed_head : (v : Violation) (list : List Violation) → listed v (v ∷ list) ≡ true
unfolding listed
listed_head v list = rw (same_self v)

pub listed_insert : (w v : Violation) (list : List Violation) → listed w (insert v list) ≡ (same w v || listed w list)
unfolding listed insert
listed_insert w v [] = refl
listed_insert w v (x ∷ list) = go (before x v) (listed_insert w v list)
  where
    go : (b : Bool) → listed w (insert v list) ≡ (same w v || listed w list)
        → listed w (cond b (x ∷ insert v list) (v ∷ (x ∷ list))) ≡ (same w v || (same w x || listed w list))
    go true e = ap (λ (b : Bool). same w x || b) e ∙ or_swap (same w x) (same w v) (listed w list)
    go false e = refl

-- ---- ascending lists

-- What holds of a violation holds of each later one.
abbrev pub Upward : (Violation → Bool) → Type 0
Upward above = (x y : Violation) → above x ≡ true → before x y ≡ true → above y ≡ true

pub upward_before : (v : Violation) → Upward (before v)
upward_before v x y h k = transitive v x y h k

pub upward_true : Upward (λ v. true)
upward_true x y h k = refl

pub ascending_insert : (above : Violation → Bool) (v : Violation) (list : List Violation) → above v ≡ true → Ascending above list → listed v list ≡ false
    → Ascending above (insert v list)
unfolding listed insert
ascending_insert above v [] h a n = (h, tt)
ascending_insert above v (w ∷ list) h a n =
    let m = or_false (same v w) (listed v list) n in
    go (before w v) refl m.0 (λ e. ascending_insert (before w) v list e a.1 m.1)
  where
    go : (b : Bool) → before w v ≡ b → same v w ≡ false → (before w v ≡ true → Ascending (before w) (insert v list))
        → Ascending above (cond b (w ∷ insert v list) (v ∷ (w ∷ list)))
    go true e k next = (a.0, next e)
    go false e k next = (h, (total_order w v e (same_sym v w k), a.1))

-- What is listed is as the test asks.
pub listed_above : (above : Violation → Bool) → Upward above → (w : Violation) (list : List Violation) → Ascending above list → listed w list ≡ true → above w ≡ true
unfolding listed
listed_above above up w [] a l = absurd (false≢true l)
listed_above above up w (v ∷ list) a l =
    or_true (same w v) (listed w list) (above w ≡ true) l
    (λ e. ap above (same_equal w v e) ∙ a.0)
    (λ e k. up v w a.0 (listed_above (before v) (upward_before v) w list a.1 k))

-- What the test does not hold of is not listed.
pub lacks : (above : Violation → Bool) → Upward above → (w : Violation) (list : List Violation) → Ascending above list → above w ≡ false → listed w list ≡ false
lacks above up w list a n = go (listed w list) refl
  where
    go : (b : Bool) → listed w list ≡ b → listed w list ≡ false
    go false e = e
    go true e = absurd (false≢true (sym n ∙ listed_above above up w list a e))

pub ascending_lacks : (v : Violation) (list : List Violation) → Ascending (before v) list → listed v list ≡ false
ascending_lacks v list a = lacks (before v) (upward_before v) v list a (irreflexive v)

-- ---- one list

heads_equal : (v w : Violation) (a b : List Violation) → Ascending (before v) a → Ascending (before w) b → listed v (w ∷ b) ≡ true → listed w (v ∷ a) ≡ true → v ≡ w
unfolding listed
heads_equal v w a b i j h k =
    or_true (same v w) (listed v b) (v ≡ w) h
    (λ e. same_equal v w e)
    (λ e l. or_true (same w v) (listed w a) (v ≡ w) k
    (λ f. sym (same_equal w v f))
    (λ f m.
    absurd
    (false≢true
    (sym (asymmetric v w (listed_above (before v) (upward_before v) w a i m)) ∙ listed_above (before w) (upward_before w) v b j l))))

tails_alike : (v : Violation) (a b : List Violation) → Ascending (before v) a → Ascending (before v) b → ((x : Violation) → listed x (v ∷ a) ≡ listed x (v ∷ b))
    → (x : Violation) → listed x a ≡ listed x b
unfolding listed
tails_alike v a b i j h x = go (same x v) refl (h x)
  where
    go : (c : Bool) → same x v ≡ c → (c || listed x a) ≡ (c || listed x b) → listed x a ≡ listed x b
    go false e k = k
    go true e k = rw (same_equal x v e) (ascending_lacks v a i ∙ sym (ascending_lacks v b j))

-- Two lists that ascend and list the same violations are equal.
pub ascending_one : (above below : Violation → Bool) (a b : List Violation) → Ascending above a → Ascending below b
    → ((v : Violation) → listed v a ≡ listed v b) → a ≡ b
unfolding listed
ascending_one above below [] [] i j h = refl
ascending_one above below [] (w ∷ b) i j h = absurd (false≢true (h w ∙ listed_head w b))
ascending_one above below (v ∷ a) [] i j h = absurd (false≢true (sym (h v) ∙ listed_head v a))
ascending_one above below (v ∷ a) (w ∷ b) i j h =
    let e : v ≡ w = heads_equal v w a b i.1 j.1 (sym (h v) ∙ listed_head v a) (h w ∙ listed_head w b) in
    let k : Ascending (before v) b = subst (λ (x : Violation). Ascending (before x) b) (sym e) j.1 in
    let t : (x : Violation) → listed x (v ∷ a) ≡ listed x (v ∷ b) = λ x. h x ∙ ap (λ (y : Violation). listed x (y ∷ b)) (sym e) in
    ap₂ (λ (x : Violation) (l : List Violation). x ∷ l) e (ascending_one (before v) (before v) a b i.1 k (tails_alike v a b i.1 k t))
