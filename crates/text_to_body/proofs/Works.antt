-- A step of the writer leaves its answer as it was.
use Prim.Native.Nat.{ℕ, zero, suc, ◌≤◌, ◌<◌}
use mathlib.Core.Path.{◌≡◌, refl, ap, sym, ◌∙◌}
use mathlib.Core.Bool.{Bool, true, false, cond, ◌&&◌}
use mathlib.Core.List.{List, [], ◌∷◌, ◌++◌, append_assoc}
use native.Mathlib.Omega.{arith}
use lib.ListN.{length, drop, get_or, set}
use lib.Seq.{get_or-set_same, get_or-set_other, set-append_seam}
use Rattle.refusal.specs.Answer.{Answer, refused}
use Rattle.notation.specs.Notation.{End, Named, negate, forall}
use Rattle.notation.specs.Reading.{Got, none, got, and_read, starts, expect, Token, flag_token, negate_token, open_token, forall_token, read_token, Joint, then_joint, beside_joint, joint, joined, second, read_parts, formula_read}
use Rattle.notation.specs.Bodies.{is_bound, flag_bytes, forall_bytes, joint_code, formula_bytes, end_bound, all_bound}
use Rattle.text_to_body.specs.Work.{read_on, close_with, Next, resume_frame, after_formula, before_formula}
use Rattle.text_to_body.specs.declared.cursor.Frame.{Frame}
use Rattle.text_to_body.specs.declared.cursor.Frame.TheVariants.{Second, Range, First}
use Rattle.notation.proofs.OneReading.{formula_step}

and_assoc : (a b c : Bool) → (a && (b && c)) ≡ ((a && b) && c)
and_assoc true b c = refl
and_assoc false b c = refl

answer_bind : {A B : Type 0} (x : Got A) (f : A → List ℕ → Got B) (k : B → List ℕ → Answer (List ℕ)) → read_on (and_read x f) k ≡ read_on x (λ a t. read_on (f a t) k)
unfolding read_on and_read
answer_bind none f k = refl
answer_bind (got a t) f k = refl

answer_same : {A : Type 0} (x : Got A) (f g : A → List ℕ → Answer (List ℕ)) → ((a : A) (t : List ℕ) → f a t ≡ g a t) → read_on x f ≡ read_on x g
unfolding read_on
answer_same none f g h = refl
answer_same (got a t) f g h = h a t

answer_close : {A : Type 0} (a : A) (s : List ℕ) (k : A → List ℕ → Answer (List ℕ)) → read_on (expect (41 ∷ []) s (λ t. got a t)) k ≡ close_with (k a) s
unfolding read_on expect close_with
answer_close a s k = go (starts (41 ∷ []) s)
  where
    go : (b : Bool) → read_on (cond b (got a (drop 1 s)) none) k ≡ cond b (k a (drop 1 s)) (refused 25)
    go true = refl
    go false = refl

close_same : (s : List ℕ) (f g : List ℕ → Answer (List ℕ)) → ((t : List ℕ) → f t ≡ g t) → close_with f s ≡ close_with g s
unfolding close_with
close_same s f g h = ap (λ (x : Answer (List ℕ)). cond (starts (41 ∷ []) s) x (refused 25)) (h (drop 1 s))

frame_same : (f g : Next) → ((sc : List (List ℕ)) (l : List ℕ) (u : Bool) (s : List ℕ) → f sc l u s ≡ g sc l u s)
    → (n : Frame) (sc : List (List ℕ)) (l : List ℕ) (u : Bool) (s : List ℕ) → resume_frame f n sc l u s ≡ resume_frame g n sc l u s
unfolding resume_frame
frame_same f g h Second sc l u s = close_same s (f sc l u) (g sc l u) (h sc l u)
frame_same f g h Range sc l u s = h (drop 1 sc) l u s
frame_same f g h (First p) sc l u s =
    answer_same (joint s) _ _ (λ j t. answer_same (formula_read t) _ _ (λ G v.
    close_same v (f sc (set l p (joint_code j) ++ formula_bytes sc G) (u && all_bound sc G)) (g sc (set l p (joint_code j) ++ formula_bytes sc G) (u && all_bound sc G))
    (h sc (set l p (joint_code j) ++ formula_bytes sc G) (u && all_bound sc G))))

-- The frames above the opened do not matter.
pub after_below : (d e : ℕ) (v : Frame) (frames : List Frame) (sc : List (List ℕ)) (l : List ℕ) (u : Bool) (s : List ℕ) → d ≤ e → after_formula d (set frames e v) sc l u s ≡ after_formula d frames sc l u s
unfolding after_formula
after_below zero e v frames sc l u s h = refl
after_below (suc d) e v frames sc l u s h =
    ap (λ (n : Frame). resume_frame (after_formula d (set frames e v)) n sc l u s) (get_or-set_other frames e d v Second (omega arith))
    ∙ frame_same (after_formula d (set frames e v)) (after_formula d frames) (λ sc' l' u' s'. after_below d e v frames sc' l' u' s' (omega arith)) (get_or frames d Second) sc l u s

-- A formula whose frame was just pushed.
pushed : (d : ℕ) (v : Frame) (frames : List Frame) (sc : List (List ℕ)) (l : List ℕ) (u : Bool) (s : List ℕ) → d < length frames
    → resume_frame (after_formula d frames) v sc l u s ≡ after_formula (suc d) (set frames d v) sc l u s
unfolding after_formula
pushed d v frames sc l u s h =
    frame_same (after_formula d frames) (after_formula d (set frames d v)) (λ sc' l' u' s'. sym (after_below d d v frames sc' l' u' s' (omega arith))) v sc l u s
    ∙ ap (λ (n : Frame). resume_frame (after_formula d (set frames d v)) n sc l u s) (sym (get_or-set_same frames d v Second h))

joined_bytes : (j : Joint) (F G : Named) (sc : List (List ℕ)) (l : List ℕ)
    → l ++ formula_bytes sc (joined j F G) ≡ set ((l ++ (0 ∷ [])) ++ formula_bytes sc F) (length l) (joint_code j) ++ formula_bytes sc G
unfolding formula_bytes joined
joined_bytes j F G sc l =
    ap (λ (x : List ℕ). l ++ x) (code j)
    ∙ sym (append_assoc l (joint_code j ∷ formula_bytes sc F) (formula_bytes sc G))
    ∙ ap (λ (x : List ℕ). x ++ formula_bytes sc G) (sym (set-append_seam l 0 (formula_bytes sc F) (joint_code j)) ∙ ap (λ (x : List ℕ). set x (length l) (joint_code j)) (sym (append_assoc l (0 ∷ []) (formula_bytes sc F))))
  where
    code : (j : Joint) → formula_bytes sc (joined j F G) ≡ joint_code j ∷ (formula_bytes sc F ++ formula_bytes sc G)
    code then_joint = refl
    code beside_joint = refl

joined_bound : (j : Joint) (F G : Named) (sc : List (List ℕ)) (u : Bool) → (u && all_bound sc (joined j F G)) ≡ ((u && all_bound sc F) && all_bound sc G)
unfolding joined all_bound
joined_bound then_joint F G sc u = and_assoc u (all_bound sc F) (all_bound sc G)
joined_bound beside_joint F G sc u = and_assoc u (all_bound sc F) (all_bound sc G)

module _ (d : ℕ) (frames : List Frame) (sc : List (List ℕ)) (l : List ℕ) (u : Bool) (s : List ℕ) where
  abbrev Then : Named → List ℕ → Answer (List ℕ)
  Then F t = after_formula d frames sc (l ++ formula_bytes sc F) (u && all_bound sc F) t

  open_step : before_formula d frames sc l u s ≡ read_on (and_read (read_token s) (read_parts formula_read)) (Then)
  unfolding before_formula
  open_step = ap (λ (x : Got Named). read_on x (Then)) (formula_step s)

  pub before_wrong : read_token s ≡ none → before_formula d frames sc l u s ≡ refused 25
  unfolding read_on and_read
  before_wrong e = open_step ∙ rw e

  module _ (t : List ℕ) where
    pub before_flag : (n : List ℕ) (k : ℕ) → read_token s ≡ got (flag_token n k) t → before_formula d frames sc l u s ≡ after_formula d frames sc (l ++ flag_bytes sc n k) (u && is_bound sc n) t
    unfolding read_on and_read read_parts formula_bytes all_bound
    before_flag n k e = open_step ∙ rw e

    pub before_negate : read_token s ≡ got negate_token t → before_formula d frames sc l u s ≡ before_formula d frames sc (l ++ (2 ∷ [])) u t
    unfolding before_formula read_on and_read read_parts formula_bytes all_bound
    before_negate e =
        open_step ∙ rw e (answer_bind (formula_read t) (λ F v. got (negate F) v) (Then)
        ∙ answer_same (formula_read t) _ _ (λ F v. ap (λ (x : List ℕ). after_formula d frames sc x (u && all_bound sc F) v) (sym (append_assoc l (2 ∷ []) (formula_bytes sc F)))))

    pub before_forall : (n : List ℕ) (A B : End) → d < length frames → read_token s ≡ got (forall_token n A B) t
        → before_formula d frames sc l u s ≡ before_formula (suc d) (set frames d Range) (n ∷ sc) (l ++ forall_bytes sc A B) (u && (end_bound sc A && end_bound sc B)) t
    unfolding before_formula read_on and_read read_parts formula_bytes all_bound resume_frame
    before_forall n A B h e =
        open_step ∙ rw e (answer_bind (formula_read t) (λ F v. got (forall n A B F) v) (Then)
        ∙ answer_same (formula_read t) _ _ (λ F v.
        ap (λ (x : List ℕ). after_formula d frames sc x (u && ((end_bound sc A && end_bound sc B) && all_bound (n ∷ sc) F)) v) (sym (append_assoc l (forall_bytes sc A B) (formula_bytes (n ∷ sc) F)))
        ∙ ap (λ (b : Bool). after_formula d frames sc ((l ++ forall_bytes sc A B) ++ formula_bytes (n ∷ sc) F) b v) (and_assoc u (end_bound sc A && end_bound sc B) (all_bound (n ∷ sc) F))
        ∙ pushed d Range frames (n ∷ sc) ((l ++ forall_bytes sc A B) ++ formula_bytes (n ∷ sc) F) ((u && (end_bound sc A && end_bound sc B)) && all_bound (n ∷ sc) F) v h))

    pub before_open : d < length frames → read_token s ≡ got open_token t → before_formula d frames sc l u s ≡ before_formula (suc d) (set frames d (First (length l))) sc (l ++ (0 ∷ [])) u t
    unfolding before_formula and_read read_parts second resume_frame
    before_open h e =
        open_step
        ∙ ap (λ (x : Got Token). read_on (and_read x (read_parts formula_read)) (Then)) e
        ∙ answer_bind (formula_read t) (λ F v. and_read (joint v) (second formula_read F)) (Then)
        ∙ answer_same (formula_read t) _ _ (λ F v.
        answer_bind (joint v) (second formula_read F) (Then)
        ∙ answer_same (joint v) _ _ (λ j w.
        answer_bind (formula_read w) (λ G x. expect (41 ∷ []) x (λ y. got (joined j F G) y)) (Then)
        ∙ answer_same (formula_read w) _ _ (λ G x.
        answer_close (joined j F G) x (Then)
        ∙ close_same x _ _ (λ y.
        ap (λ (z : List ℕ). after_formula d frames sc z (u && all_bound sc (joined j F G)) y) (joined_bytes j F G sc l)
        ∙ ap (λ (b : Bool). after_formula d frames sc (set ((l ++ (0 ∷ [])) ++ formula_bytes sc F) (length l) (joint_code j) ++ formula_bytes sc G) b y) (joined_bound j F G sc u))))
        ∙ pushed d (First (length l)) frames sc ((l ++ (0 ∷ [])) ++ formula_bytes sc F) (u && all_bound sc F) v h)

    pub after_joint : (p : ℕ) (j : Joint) → d < length frames → get_or frames d Second ≡ First p → joint s ≡ got j t
        → after_formula (suc d) frames sc l u s ≡ before_formula (suc d) (set frames d Second) sc (set l p (joint_code j)) u t
    unfolding before_formula read_on after_formula resume_frame
    after_joint p j h z e =
        rw (z, e) (answer_same (formula_read t) _ _ (λ G v. pushed d Second frames sc (set l p (joint_code j) ++ formula_bytes sc G) (u && all_bound sc G) v h))

  pub after_unjoined : (p : ℕ) → get_or frames d Second ≡ First p → joint s ≡ none → after_formula (suc d) frames sc l u s ≡ refused 25
  unfolding read_on after_formula resume_frame
  after_unjoined p z e = rw (z, e)

  pub after_binding : get_or frames d Second ≡ Range → after_formula (suc d) frames sc l u s ≡ after_formula d frames (drop 1 sc) l u s
  unfolding after_formula resume_frame
  after_binding z = rw z

  pub after_close : get_or frames d Second ≡ Second → starts (41 ∷ []) s ≡ true → after_formula (suc d) frames sc l u s ≡ after_formula d frames sc l u (drop 1 s)
  unfolding after_formula resume_frame close_with
  after_close z e = rw (z, e)

  pub after_unclosed : get_or frames d Second ≡ Second → starts (41 ∷ []) s ≡ false → after_formula (suc d) frames sc l u s ≡ refused 25
  unfolding after_formula resume_frame close_with
  after_unclosed z e = rw (z, e)
