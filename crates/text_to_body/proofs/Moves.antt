-- What a step promises, over plain values: one law to an arm of the code.
use Prim.Native.Nat.{ℕ, zero, suc, ◌+◌, ◌-◌, ◌*◌, ◌≤◌, ◌<◌}
use mathlib.Core.Path.{◌≡◌, refl, ap, sym, ◌∙◌}
use mathlib.Core.Bool.{Bool, ◌&&◌}
use mathlib.Core.List.{List, [], ◌∷◌, ◌++◌}
use mathlib.Core.Logic.{◌⊎◌, inl, inr}
use native.Mathlib.Omega.{arith}
use native.Mathlib.Numerals.{add-one}
use lib.ListN.{length, drop, take, set}
use lib.Seq.{get_or-set_same, get_or-set_other, take-suc-set, length-take-le}
use Rattle.std.proofs.lemmas.List.{get_or-take}
use Rattle.refusal.specs.Answer.{refused}
use Rattle.notation.specs.Notation.{letter}
use Rattle.notation.specs.Reading.{got, none, run, Token, flag_token, negate_token, open_token, forall_token, read_token}
use Rattle.notation.specs.Bodies.{is_bound, flag_bytes, end_bound, forall_bytes}
use Rattle.text_pieces.specs.Spots.{FlagAt, ForallAt}
use Rattle.text_to_body.specs.Work.{scope_of}
use Rattle.text_to_body.specs.Cursors.{to_come, answer_at, way, CursorFits, Moved}
use Rattle.text_to_body.specs.declared.cursor.Cursor.{Cursor}
use Rattle.text_to_body.specs.declared.cursor.Frame.{Frame}
use Rattle.text_to_body.specs.declared.cursor.Frame.TheVariants.{Range, First}
use Rattle.text_to_body.specs.declared.cursor.Mode.{Mode}
use Rattle.text_to_body.specs.declared.cursor.Mode.TheVariants.{Before, After, Whole}
use Rattle.text_to_body.proofs.Costs.{cost_least, head_end}
use Rattle.text_to_body.proofs.Scopes.{forall_named}
use Rattle.text_to_body.proofs.Works.{before_wrong, before_flag, before_negate, before_forall, before_open}

-- ---- names in scope

scope_below : (s names : List ℕ) (m e a : ℕ) → m ≤ e → scope_of s (set names e a) m ≡ scope_of s names m
unfolding scope_of
scope_below s names zero e a h = refl
scope_below s names (suc m) e a h =
    rw (get_or-set_other names e m a 0 (omega arith), scope_below s names m e a (omega arith))

scope_push : (s names : List ℕ) (m a : ℕ) → m < length names → scope_of s (set names m a) (m + 1) ≡ run letter (drop a s) ∷ scope_of s names m
unfolding scope_of
scope_push s names m a h =
    ap (scope_of s (set names m a)) (add-one m) ∙ rw (get_or-set_same names m a 0 h, scope_below s names m m a (omega arith))

-- Only the names in scope matter.
pub scope_first : (s names : List ℕ) (m k : ℕ) → m ≤ k → scope_of s (take k names) m ≡ scope_of s names m
unfolding scope_of
scope_first s names zero k h = refl
scope_first s names (suc m) k h = rw (get_or-take k names m 0 (omega arith), scope_first s names m k (omega arith))

-- The names in scope, cut off after the last of them.
pub scoped : (s names : List ℕ) (m : ℕ) → m ≤ length names → scope_of s (take m names) (length (take m names)) ≡ scope_of s names m
scoped s names m h = ap (scope_of s (take m names)) (length-take-le m names h) ∙ scope_first s names m m (omega arith)

-- Before or after a formula.
abbrev pub Going : Mode → Type 0
Going Before = Unit {0}
Going After = Unit {0}
Going Whole = ⊥

pub going : (m : Mode) → (m ≡ Before) ⊎ (m ≡ After) → Going m
going m (inl e) = rw e tt
going m (inr e) = rw e tt

further : (m : Mode) (x y : ℕ) → Going m → x < y → (n : Mode) → way n x < way m y
unfolding way
further Before x y g h Before = omega arith
further Before x y g h After = omega arith
further Before x y g h Whole = omega arith
further After x y g h Before = omega arith
further After x y g h After = omega arith
further After x y g h Whole = omega arith
further Whole x y g h n = absurd g

at_end : (m : Mode) (x y : ℕ) → Going m → way Whole x < way m y
unfolding way
at_end Before x y g = omega arith
at_end After x y g = omega arith
at_end Whole x y g = absurd g

module _ (s : List ℕ) (frames : List Frame) (names out : List ℕ) (p : Cursor) (w : CursorFits s p) where
  pub goes : (frames' : List Frame) (names' out' : List ℕ) (r : Cursor) → Going p.mode
      → answer_at s frames names out p ≡ answer_at s frames' names' out' r
      → r.opened + 2 * p.at < p.opened + 2 * r.at → CursorFits s r
      → Moved s frames names out p frames' names' out' r
  goes frames' names' out' r m v a x =
      record {
        same_answer = v;
        shorter = further p.mode (2 * (length s - r.at) + r.opened) (2 * (length s - p.at) + p.opened) m (omega (arith, a, x.place, w.place)) r.mode;
        within = x;
      }

  pub stops : (r : Cursor) → Going p.mode → r.mode ≡ Whole → answer_at s frames names out p ≡ answer_at s frames names out r → CursorFits s r
      → Moved s frames names out p frames names out r
  stops r m n v x =
      record {
        same_answer = v;
        shorter = rw n (at_end p.mode (2 * (length s - r.at) + r.opened) (2 * (length s - p.at) + p.opened) m);
        within = x;
      }

  -- Where a formula starts there is room for a byte and for a frame.
  pub rooms : (q : ℕ) (T : Token) → q ≤ length s → read_token (drop p.at s) ≡ got T (drop q s) → length s ≤ 4096 → (p.written < 4096) × (p.opened < 4096)
  rooms q T i h r =
      let c = head_end s p.at q i w.place T h in
      let l = cost_least T in
      (omega (arith, c, l, i, w.bytes_fit, r), omega (arith, c, l, i, w.frames_fit, r))

  -- One byte more.
  one_byte : (v : ℕ) → p.written < length out → take (p.written + 1) (set out p.written v) ≡ take p.written out ++ (v ∷ [])
  one_byte v l = ap (λ (n : ℕ). take n (set out p.written v)) (add-one p.written) ∙ take-suc-set out p.written v l

  -- ---- before a formula

  module _ (z : p.mode ≡ Before) where
    before_going : Going p.mode
    before_going = going p.mode (inl z)

    pub wrong_arm : read_token (drop p.at s) ≡ none → answer_at s frames names out p ≡ refused 25
    unfolding to_come
    wrong_arm h = rw z (before_wrong p.opened frames (scope_of s names p.scope) (take p.written out) p.resolved (drop p.at s) h)

    pub flag_end : (q : ℕ) → FlagAt s (p.at + 1) q (read_token (drop p.at s)) → p.at + 4 ≤ q
    flag_end q x = head_end s p.at q x.inside w.place (flag_token x.name x.digit) x.is

    pub flag_arm : (q : ℕ) (x : FlagAt s (p.at + 1) q (read_token (drop p.at s))) (out' : List ℕ) (ok u : Bool)
        → ok ≡ is_bound (scope_of s names p.scope) x.name
        → take (p.written + 3) out' ≡ take p.written out ++ flag_bytes (scope_of s names p.scope) x.name x.digit
        → u ≡ (p.resolved && ok)
        → Moved s frames names out p frames names out' (record { mode = After; at = q; opened = p.opened; scope = p.scope; written = p.written + 3; resolved = u })
    unfolding to_come
    flag_arm q x out' ok u o t e =
        let c = flag_end q x in
        goes frames names out' (record { mode = After; at = q; opened = p.opened; scope = p.scope; written = p.written + 3; resolved = u }) before_going
        (rw (z, e, o, t) (before_flag p.opened frames (scope_of s names p.scope) (take p.written out) p.resolved (drop p.at s) (drop q s) x.name x.digit x.is))
        (omega (arith, c))
        (record { place = x.inside; frames_fit = omega (arith, c, w.frames_fit); bytes_fit = omega (arith, c, w.bytes_fit); names_fit = omega (arith, c, w.names_fit) })

    pub negate_arm : (q : ℕ) → q ≤ length s → read_token (drop p.at s) ≡ got negate_token (drop q s) → p.written < length out
        → Moved s frames names out p frames names (set out p.written 2)
        (record { mode = p.mode; at = q; opened = p.opened; scope = p.scope; written = p.written + 1; resolved = p.resolved })
    unfolding to_come
    negate_arm q i h l =
        let c = head_end s p.at q i w.place negate_token h in
        goes frames names (set out p.written 2) (record { mode = p.mode; at = q; opened = p.opened; scope = p.scope; written = p.written + 1; resolved = p.resolved })
        before_going
        (rw (z, one_byte 2 l) (before_negate p.opened frames (scope_of s names p.scope) (take p.written out) p.resolved (drop p.at s) (drop q s) h))
        (omega (arith, c))
        (record { place = i; frames_fit = omega (arith, c, w.frames_fit); bytes_fit = omega (arith, c, w.bytes_fit); names_fit = omega (arith, c, w.names_fit) })

    pub open_arm : (q : ℕ) → q ≤ length s → read_token (drop p.at s) ≡ got open_token (drop q s) → p.written < length out → p.opened < length frames
        → Moved s frames names out p (set frames p.opened (First p.written)) names (set out p.written 0)
        (record { mode = p.mode; at = q; opened = p.opened + 1; scope = p.scope; written = p.written + 1; resolved = p.resolved })
    unfolding to_come
    open_arm q i h l k =
        let c = head_end s p.at q i w.place open_token h in
        let m : p.written ≡ length (take p.written out) = sym (length-take-le p.written out (omega (arith, l))) in
        let f : First p.written ≡ First (length (take p.written out)) = ap First m in
        goes (set frames p.opened (First p.written)) names (set out p.written 0)
        (record { mode = p.mode; at = q; opened = p.opened + 1; scope = p.scope; written = p.written + 1; resolved = p.resolved })
        before_going
        (rw (z, one_byte 0 l, f, add-one p.opened) (before_open p.opened frames (scope_of s names p.scope) (take p.written out) p.resolved (drop p.at s) (drop q s) k h))
        (omega (arith, c))
        (record { place = i; frames_fit = omega (arith, c, w.frames_fit); bytes_fit = omega (arith, c, w.bytes_fit); names_fit = omega (arith, c, w.names_fit) })

    module _ (q : ℕ) (x : ForallAt s (p.at + 7) q (read_token (drop p.at s))) where
      pub range_end : p.at + 19 ≤ q
      range_end = head_end s p.at q x.inside w.place (forall_token x.name x.first x.second) x.is

      pub range_arm : (out' : List ℕ) (ok u : Bool) → p.opened < length frames → p.scope < length names
          → ok ≡ (end_bound (scope_of s names p.scope) x.first && end_bound (scope_of s names p.scope) x.second)
          → take (p.written + 9) out' ≡ take p.written out ++ forall_bytes (scope_of s names p.scope) x.first x.second
          → u ≡ (p.resolved && ok)
          → Moved s frames names out p (set frames p.opened Range) (set names p.scope (p.at + 7)) out'
          (record { mode = p.mode; at = q; opened = p.opened + 1; scope = p.scope + 1; written = p.written + 9; resolved = u })
      unfolding to_come
      range_arm out' ok u k j o t e =
          let c = range_end in
          let n : scope_of s (set names p.scope (p.at + 7)) (p.scope + 1) ≡ x.name ∷ scope_of s names p.scope
          = scope_push s names p.scope (p.at + 7) j
          ∙ ap (λ (y : List ℕ). y ∷ scope_of s names p.scope) (sym (forall_named (drop (p.at + 7) s) x.name x.first x.second (drop q s) x.named)) in
          goes (set frames p.opened Range) (set names p.scope (p.at + 7)) out'
          (record { mode = p.mode; at = q; opened = p.opened + 1; scope = p.scope + 1; written = p.written + 9; resolved = u })
          before_going
          (rw (z, n, e, o, t, add-one p.opened)
          (before_forall p.opened frames (scope_of s names p.scope) (take p.written out) p.resolved (drop p.at s) (drop q s) x.name x.first x.second k x.is))
          (omega (arith, c))
          (record { place = x.inside; frames_fit = omega (arith, c, w.frames_fit); bytes_fit = omega (arith, c, w.bytes_fit); names_fit = omega (arith, c, w.names_fit) })
