-- What a link hears of its tape: that a record begins, of whatever track, or a mark of its port.
--
--   byte_in b, mark_signs m    a byte, a mark, if there is one, as a list
--   signs_heard h, heard_signs answer    the mark of what is heard, if it is one; of an answer
--   BeganAs step h             what is heard is a record that begins at the moment which the step tells
--   HeardAt moment h           a record that begins tells this moment
--   MomentKept was now h       the moment stays unless a record begins
--   IfNothing answer P         P of an answer in which nothing is heard
--   heard_fault answer         the fault that an answer tells
use Rattle.std.specs.Prelude.{◌≡◌, ℕ, List, [], ◌∷◌, Option, Some, None, Result, Ok, Err}
use Rattle.mb_message.specs.Signs.{Sign, sign_of}
use Rattle.mb_message.specs.declared.mark.Mark.{Mark}
use Rattle.mb_frames.specs.declared.tape.TapeFault.{TapeFault}
use Rattle.mb_track.specs.declared.track.TrackStep.{TrackStep}
use Rattle.mb_track.specs.declared.track.TrackStep.TheVariants as step
use Rattle.mb_rig.specs.declared.heard.Heard.{Heard}
use Rattle.mb_rig.specs.declared.heard.Heard.TheVariants as heard

abbrev pub byte_in : Option ℕ → List ℕ
byte_in None = []
byte_in (Some b) = b ∷ []

abbrev pub mark_signs : Option Mark → List Sign
mark_signs None = []
mark_signs (Some m) = sign_of m ∷ []

abbrev pub signs_heard : Option Heard → List Sign
signs_heard None = []
signs_heard (Some (heard.Record moment)) = []
signs_heard (Some (heard.Mark m)) = sign_of m ∷ []

abbrev pub heard_signs : Result (Option Heard) TapeFault → List Sign
heard_signs (Ok h) = signs_heard h
heard_signs (Err f) = []

abbrev pub BeganAs : TrackStep → Option Heard → Type 0
BeganAs s None = Unit {0}
BeganAs s (Some (heard.Record moment)) = s ≡ step.Begin moment
BeganAs s (Some (heard.Mark m)) = Unit {0}

abbrev pub HeardAt : (moment : ℕ) → Option Heard → Type 0
HeardAt moment None = Unit {0}
HeardAt moment (Some (heard.Record m)) = m ≡ moment
HeardAt moment (Some (heard.Mark m)) = Unit {0}

abbrev pub MomentKept : (was now : ℕ) → Option Heard → Type 0
MomentKept was now None = now ≡ was
MomentKept was now (Some (heard.Record m)) = Unit {0}
MomentKept was now (Some (heard.Mark m)) = now ≡ was

abbrev pub IfNothing : Result (Option Heard) TapeFault → Type 0 → Type 0
IfNothing (Ok None) P = P
IfNothing (Ok (Some h)) P = Unit {0}
IfNothing (Err f) P = P

abbrev pub heard_fault : Result (Option Heard) TapeFault → Option TapeFault
heard_fault (Ok h) = None
heard_fault (Err f) = Some f
