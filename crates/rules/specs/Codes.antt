-- Each refusal and its number, and the answer of what may be refused: "Refused because of the input" and "Refused because of the state".
use Rattle.std.specs.Prelude.{ℕ, Result, Ok, Err}
use Rattle.rules.specs.declared.Answer.{Answer}
use Rattle.rules.specs.declared.Refusal.{Refusal}
use Rattle.rules.specs.declared.Refusal.TheVariants.{AfterCut, BeingRead, ChannelFull, Contradiction, CutShort, DependencesFull, Locked, LogFull, ModifiedFull, NoByte, NoLine, NoOpenRegion, NoThread, NoWord, NotInFlight, NumbersSpent, OutOfPlace, OutOfRange, Owned, SlotsFull, TooDeep, UnfitParties, UnknownKind}

abbrev pub code : Refusal → ℕ
code CutShort = 1
code UnknownKind = 2
code NoThread = 3
code NoLine = 4
code NoWord = 5
code OutOfRange = 6
code OutOfPlace = 7
code Contradiction = 8
code AfterCut = 11
code NoOpenRegion = 12
code TooDeep = 13
code NumbersSpent = 14
code ModifiedFull = 15
code ChannelFull = 16
code Owned = 17
code Locked = 18
code DependencesFull = 19
code SlotsFull = 20
code LogFull = 21
code NotInFlight = 22
code UnfitParties = 24
code BeingRead = 25
code NoByte = 27

-- the number of what may be refused, 0 where it is not
abbrev pub code_of : {A : Type 0} → Result A Refusal → ℕ
code_of (Ok x) = 0
code_of (Err r) = code r

abbrev pub answered : Result ℕ Refusal → Answer
answered (Ok v) = record { refusal = 0; value = v }
answered (Err r) = record { refusal = code r; value = 0 }
