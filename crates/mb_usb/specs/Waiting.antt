-- What a writer keeps of the open SysEx.
use Rattle.std.specs.Prelude.{ℕ, Bool, true, false, List, [], ◌∷◌}
use Rattle.mb_usb.specs.declared.writer.Sysex.{Sysex}
use Rattle.mb_usb.specs.declared.writer.Sysex.TheVariants.{Closed, Whole, One, Two}

-- whether a SysEx is open
abbrev pub opens : Sysex → Bool
opens Closed = false
opens _ = true

-- the bytes that fill no packet yet
abbrev pub waiting : Sysex → List ℕ
waiting Closed = []
waiting Whole = []
waiting (One a) = a ∷ []
waiting (Two a b) = a ∷ b ∷ []
