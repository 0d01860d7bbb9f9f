-- What the turns of a screen leave with their caller (include/sst.h).
use Rattle.std.specs.Prelude.{List, ℕ}
use Rattle.screen.specs.Screen.{Turned}

-- a turn's number, the bytes of the screen and of the event buffer, events written, steps done
abbrev pub leaves : ℕ → List ℕ → List ℕ → ℕ → ℕ → Turned
leaves number screen buffer written steps = record { number = number; screen = screen; buffer = buffer; events = written; steps = steps }
