-- No refusal has the number 0, which stands for a call that is not refused.
use Prim.Native.Nat.{ℕ, suc}
use mathlib.Core.Path.{◌≡◌, refl}
use native.Mathlib.Omega.{arith}
use Rattle.refusal.specs.Answer.{KeptIfRefused}
use Rattle.refusal.specs.Numbers.{number_of}
use Rattle.refusal.specs.declared.Refusal.{Refusal}
use Rattle.refusal.specs.declared.Refusal.TheVariants.{RuleCount, EntryLayout, NoSuchRule, BodyEndsEarly, UnknownCode, UnboundVariable, NoSuchFlag, OffsetOutOfRange, BodyTooLarge, BytesLeftOver, DelayInfinite, DelayAboveLimit, HistoryInfinite, HistoryAboveLimit, CellsAboveLimit, NotInRecording, HistoryLength, CellTableTooShort, ReportTooShort, TicksUsedUp, StateNotOpened, BufferTooShort, VariableByteNotZero, OffsetOnInfinity, Misspelt, UnboundName, SetCellsAboveLimit}

pub positive : (x : Refusal) → (m : ℕ) × (number_of x ≡ suc m)
positive RuleCount = (0, refl)
positive EntryLayout = (1, refl)
positive NoSuchRule = (2, refl)
positive BodyEndsEarly = (3, refl)
positive UnknownCode = (4, refl)
positive UnboundVariable = (5, refl)
positive NoSuchFlag = (6, refl)
positive OffsetOutOfRange = (7, refl)
positive BodyTooLarge = (8, refl)
positive BytesLeftOver = (9, refl)
positive DelayInfinite = (10, refl)
positive DelayAboveLimit = (11, refl)
positive HistoryInfinite = (12, refl)
positive HistoryAboveLimit = (13, refl)
positive CellsAboveLimit = (14, refl)
positive NotInRecording = (15, refl)
positive HistoryLength = (16, refl)
positive CellTableTooShort = (17, refl)
positive ReportTooShort = (18, refl)
positive TicksUsedUp = (19, refl)
positive StateNotOpened = (20, refl)
positive BufferTooShort = (21, refl)
positive VariableByteNotZero = (22, refl)
positive OffsetOnInfinity = (23, refl)
positive Misspelt = (24, refl)
positive UnboundName = (25, refl)
positive SetCellsAboveLimit = (26, refl)

pub not_zero : (x : Refusal) → number_of x ≡ 0 → ⊥
not_zero x e = let z = positive x in omega (arith, e, z.1)

-- A lent number that a refused call did not write.
pub kept_if_refused : (x : Refusal) (n old : ℕ) → n ≡ number_of x → KeptIfRefused n old old
kept_if_refused x n old e = let z = positive x in rw (e, z.1) refl
