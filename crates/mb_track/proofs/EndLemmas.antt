-- The end of a track: no SysEx is open behind all of its marks, and a tape without records has no end part.
use Rattle.std.proofs.Common.{◌≡◌, ℕ, Bool, true, false, Option, Some, None, List, [], ◌∷◌, ◌++◌, refl, sym, ◌∙◌, ap}
use Rattle.std.proofs.Common.{subst}
use Rattle.std.specs.Prelude.{nat_lt, if◌then◌else◌}
use Rattle.mb_message.specs.Front.{IsFront}
use Rattle.mb_message.specs.Signs.{Sign, ShortSign, OpenSign}
use Rattle.mb_stream.specs.Puts.{Put, puts_at, signs_in}
use Rattle.mb_stream.specs.Reading.{told_signs}
use Rattle.mb_stream.specs.Standing.{is_open}
use Rattle.mb_stream.proofs.ByteKinds.{Need, One, Two, Kind, DataKind, ChannelKind, CommonKind, TuneKind, StartKind}
use Rattle.mb_stream.proofs.ByteKinds.{EndKind, OtherKind, RtKind, OtherRtKind, kind}
use Rattle.mb_stream.proofs.LiteralMarks.{heard_bytes}
use Rattle.mb_stream.proofs.Machine.{Reader, Rest, Waits, Ready, Begun, Inside, after, ends, is_inside, read, tells}
use Rattle.mb_stream.proofs.StandingLemmas.{is_open-from, open_from, open_from-append}
use Rattle.mb_frames.specs.Frames.{FramePart, FrameBegin, FrameByte, FrameEnd, parts}
use Rattle.mb_din.proofs.DinMarks.{din-signs}
use Rattle.mb_usb.specs.Reading.{cable_payload}
use Rattle.mb_usb.proofs.PayloadMarks.{usb-signs}
use Rattle.mb_fire.specs.Reading.{fire_payload}
use Rattle.mb_fire.proofs.CarrierLaws.{fire-signs}
use Rattle.mb_ble.proofs.PacketLiteral.{ble-signs}
use Rattle.mb_ble.proofs.PacketMachine.{AtBody, AtHeader, AtSkipped, AtStamped, Packeted, Where, at_byte, between}
use Rattle.mb_ble.proofs.PacketMachine.{byte_tells, cut, in_stamp, part_after, part_tells, read_parts, resumes}
use Rattle.mb_ble.proofs.PacketMachine.{runs_after, taken}
use Rattle.mb_carrier.specs.Carrier.{end_told, marks_of}
use Rattle.mb_carrier.specs.declared.spec.Spec.{Spec}
use Rattle.mb_carrier.specs.declared.spec.Spec.TheVariants.{Din, Usb, Fire, Ble}
use Rattle.mb_track.specs.Track.{last_record_moment, recording, track_end, track_marks, track_records}
use Rattle.mb_track.specs.Track.{marks_from, track_marks_so_far}
use Rattle.mb_track.proofs.FrontLemmas.{all-signs}

-- a byte stream's marks, its end among them

ends-closed : (r : Reader) → open_from (is_inside r) (ends r) ≡ false
ends-closed Rest = refl
ends-closed (Waits runs n s) = refl
ends-closed (Ready n s) = refl
ends-closed (Begun runs s d) = refl
ends-closed Inside = refl

data-opens : (r : Reader) (b : ℕ) → open_from (is_inside r) (tells r DataKind b) ≡ is_inside (after r DataKind b)
data-opens Rest b = refl
data-opens (Waits true One s) b = refl
data-opens (Waits false One s) b = refl
data-opens (Waits runs Two s) b = refl
data-opens (Ready One s) b = refl
data-opens (Ready Two s) b = refl
data-opens (Begun true s d) b = refl
data-opens (Begun false s d) b = refl
data-opens Inside b = refl

end-opens : (r : Reader) (b : ℕ) → open_from (is_inside r) (tells r EndKind b) ≡ false
end-opens Rest b = refl
end-opens (Waits runs n s) b = refl
end-opens (Ready n s) b = refl
end-opens (Begun runs s d) b = refl
end-opens Inside b = refl

-- behind what a byte tells a SysEx is open where the reader is inside one
byte-opens : (r : Reader) (k : Kind) (b : ℕ) → open_from (is_inside r) (tells r k b) ≡ is_inside (after r k b)
byte-opens r DataKind b = data-opens r b
byte-opens r (ChannelKind n) b = ends-closed r
byte-opens r (CommonKind n) b = ends-closed r
byte-opens r TuneKind b = open_from-append (is_inside r) (ends r) (ShortSign b 0 0 ∷ [])
byte-opens r StartKind b = open_from-append (is_inside r) (ends r) (OpenSign ∷ [])
byte-opens r EndKind b = end-opens r b
byte-opens r OtherKind b = ends-closed r
byte-opens r RtKind b = refl
byte-opens r OtherRtKind b = refl

closed-then : (was now : Bool) (ms more : List Sign) → open_from was ms ≡ now → open_from now more ≡ false →
    open_from was (ms ++ more) ≡ false
closed-then was now ms more e closed =
    open_from-append was ms more ∙ (ap (λ (o : Bool). open_from o more) e ∙ closed)

read-closed : (r : Reader) (bs : List ℕ) → open_from (is_inside r) (read r bs) ≡ false
read-closed r [] = ends-closed r
read-closed r (b ∷ bs) =
    let next : Reader = after r (kind b) b in
    closed-then (is_inside r) (is_inside next) (tells r (kind b) b) (read next bs) (byte-opens r (kind b) b)
    (read-closed next bs)

-- packets with stamps

resumes-inside : (q : Option (Need × ℕ)) (r : Reader) → is_inside (resumes q r) ≡ is_inside r
resumes-inside None r = refl
resumes-inside (Some q) Rest = refl
resumes-inside (Some q) (Waits runs n s) = refl
resumes-inside (Some q) (Ready n s) = refl
resumes-inside (Some q) (Begun runs s d) = refl
resumes-inside (Some q) Inside = refl

cut-inside : (r : Reader) → is_inside (cut r) ≡ is_inside r
cut-inside Rest = refl
cut-inside (Waits runs n s) = refl
cut-inside (Ready n s) = refl
cut-inside (Begun runs s d) = refl
cut-inside Inside = refl

taken-opens : (r : Reader) (q : Option (Need × ℕ)) (b : ℕ) →
    open_from (is_inside r) (tells r (kind b) b) ≡ is_inside (taken r q (kind b) b).reader
taken-opens r q b =
    byte-opens r (kind b) b ∙ sym (resumes-inside (runs_after q (kind b) b) (after r (kind b) b))

packet-byte-opens : (w : Where) (r : Reader) (q : Option (Need × ℕ)) (b : ℕ) →
    open_from (is_inside r) (byte_tells w r b) ≡ is_inside (at_byte w r q b).reader
packet-byte-opens AtHeader r q b = refl
packet-byte-opens AtSkipped r q b = refl
packet-byte-opens AtStamped r q b = taken-opens r q b
packet-byte-opens AtBody r q b = by (nat_lt b 128) where
  by : (low : Bool) → open_from (is_inside r) (if low then tells r (kind b) b else []) ≡
      is_inside (if low then taken r q (kind b) b else in_stamp r q).reader
  by true = taken-opens r q b
  by false = refl

part-opens : (p : Packeted) (x : FramePart) →
    open_from (is_inside p.reader) (part_tells p x) ≡ is_inside (part_after p x).reader
part-opens p (FrameBegin len) = refl
part-opens p (FrameByte b) = packet-byte-opens p.place p.reader p.runs b
part-opens p FrameEnd = sym (cut-inside p.reader)

parts-closed : (p : Packeted) (xs : List FramePart) → open_from (is_inside p.reader) (read_parts p xs) ≡ false
parts-closed p [] = ends-closed p.reader
parts-closed p (x ∷ xs) =
    let next : Packeted = part_after p x in
    closed-then (is_inside p.reader) (is_inside next.reader) (part_tells p x) (read_parts next xs) (part-opens p x)
    (parts-closed next xs)

-- any carrier's
marks-closed : (s : Spec) (bytes : List ℕ) → open_from false (marks_of s bytes) ≡ false
marks-closed Din bytes = ap (open_from false) (din-signs bytes) ∙ read-closed Rest bytes
marks-closed (Usb cable) bytes =
    ap (open_from false) (usb-signs cable bytes) ∙ read-closed Rest (heard_bytes (cable_payload cable bytes))
marks-closed (Fire port) bytes =
    ap (open_from false) (fire-signs port bytes) ∙ read-closed Rest (heard_bytes (fire_payload port bytes))
marks-closed (Ble size) bytes = ap (open_from false) (ble-signs bytes) ∙ parts-closed (between Rest) (parts bytes)

pub all-closed : (s : Spec) (track : ℕ) (tape : List ℕ) → is_open (signs_in (track_marks s track tape)) ≡ false
all-closed s track tape =
    ap is_open (all-signs s track tape)
    ∙ (is_open-from (marks_of s (recording track (track_records tape)))
    ∙ marks-closed s (recording track (track_records tape)))

-- no records

nothing-ends : (s : Spec) → told_signs (end_told s []) ≡ []
nothing-ends Din = refl
nothing-ends (Usb cable) = refl
nothing-ends (Fire port) = refl
nothing-ends (Ble size) = refl

pub no-end : (s : Spec) (track : ℕ) (tape : List ℕ) → track_records tape ≡ [] → track_end s track tape ≡ []
no-end s track tape none =
    ap (λ rs. puts_at (last_record_moment rs) (told_signs (end_told s (recording track rs)))) none
    ∙ ap (puts_at 0) (nothing-ends s)

front-nothing : (told : List Put) → IsFront told [] → told ≡ []
front-nothing [] f = refl
front-nothing (p ∷ ps) f = cc

pub none-told : (s : Spec) (track : ℕ) (tape : List ℕ) (told : List Put) → track_records tape ≡ [] →
    IsFront told (track_marks_so_far s track tape) → told ≡ []
none-told s track tape told none f =
    front-nothing told (subst (λ (ps : List Put). IsFront told ps) (ap (marks_from s track []) none) f)
