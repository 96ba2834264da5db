-- What readers and writers of any port stand for, by their carrier.
use Rattle.std.specs.Prelude.{◌≡◌, ℕ, Bool, true, false, not, ◌==◌, List, take}
use Rattle.mb_stream.specs.Told.{Known}
use Rattle.mb_stream.specs.Puts.{Put, signs_in}
use Rattle.mb_din.specs.Writer as din
use Rattle.mb_usb.specs.Writer as usb
use Rattle.mb_fire.specs.PortWriter as fire
use Rattle.mb_stream.specs.ReaderLaw.{StatusNext}
use Rattle.mb_din.specs.State as din_state
use Rattle.mb_din.specs.State.{Rests}
use Rattle.mb_usb.specs.Cables.{CableStands}
use Rattle.mb_usb.specs.State as usb_state
use Rattle.mb_fire.specs.Ports.{PortStands}
use Rattle.mb_fire.specs.State as fire_state
use Rattle.mb_frames.specs.Reading as frames
use Rattle.mb_ble.specs.Stands.{BleStands}
use Rattle.mb_ble.specs.Stands as ble_stands
use Rattle.mb_ble.specs.State as ble_state
use Rattle.mb_ble.specs.Writer as ble
use Rattle.mb_carrier.specs.Line.{LineStands}
use Rattle.mb_carrier.specs.declared.spec.Spec.{Spec}
use Rattle.mb_carrier.specs.declared.spec.Spec.TheVariants as spec
use Rattle.mb_carrier.specs.declared.writer.WriterOf.{WriterOf}
use Rattle.mb_carrier.specs.declared.writer.WriterOf.TheVariants as writer
use Rattle.mb_carrier.specs.declared.writer.PortWriter.{PortWriter}
use Rattle.mb_carrier.specs.declared.reader.ReaderOf.{ReaderOf}
use Rattle.mb_carrier.specs.declared.reader.ReaderOf.TheVariants as reader
use Rattle.mb_carrier.specs.declared.reader.PortReader.{PortReader}

abbrev pub writer_spec_by : WriterOf → Spec
writer_spec_by (writer.Din w) = spec.Din
writer_spec_by (writer.Usb w) = spec.Usb w.cable
writer_spec_by (writer.Fire w) = spec.Fire w.port
writer_spec_by (writer.Ble w) = spec.Ble w.packet.size

abbrev pub writer_spec : PortWriter → Spec
writer_spec w = writer_spec_by w.carrier

abbrev pub in_sysex_by : WriterOf → Bool
in_sysex_by (writer.Din w) = w.in_sysex
in_sysex_by (writer.Usb w) = w.in_sysex
in_sysex_by (writer.Fire w) = w.in_sysex
in_sysex_by (writer.Ble w) = w.in_sysex

abbrev pub WriterStandsBy : WriterOf → List Put → Type 0
WriterStandsBy (writer.Din w) puts = din.Stands w (signs_in puts) × (w.running ≡ true)
WriterStandsBy (writer.Usb w) puts = usb.Stands w (signs_in puts)
WriterStandsBy (writer.Fire w) puts = fire.Stands w (signs_in puts)
WriterStandsBy (writer.Ble w) puts = ble.Stands w puts

-- it was given these marks at their moments, and these flushes
abbrev pub WriterStands : PortWriter → List Put → Type 0
WriterStands w puts = WriterStandsBy w.carrier puts

-- whether a SysEx is open
abbrev pub writer_in_sysex : PortWriter → Bool
writer_in_sysex w = in_sysex_by w.carrier

abbrev pub reader_spec_by : ReaderOf → Spec
reader_spec_by (reader.Din r) = spec.Din
reader_spec_by (reader.Usb r) = spec.Usb r.cable
reader_spec_by (reader.Fire r) = spec.Fire r.port
reader_spec_by (reader.Ble r) = spec.Ble r.size

abbrev pub reader_spec : PortReader → Spec
reader_spec r = reader_spec_by r.carrier

abbrev pub ReaderStandsBy : ReaderOf → List ℕ → List Known → Type 0
ReaderStandsBy (reader.Din r) bytes told = LineStands r bytes told
ReaderStandsBy (reader.Usb r) bytes told = CableStands r bytes told
ReaderStandsBy (reader.Fire r) bytes told = PortStands r bytes told
ReaderStandsBy (reader.Ble r) bytes told = BleStands r.packets bytes told

abbrev pub ReaderStands : PortReader → List ℕ → List Known → Type 0
ReaderStands r bytes told = ReaderStandsBy r.carrier bytes told

-- they differ in the moment that is set, and in nothing else
abbrev pub ReadsAlike : (was now : PortReader) → Type 0
ReadsAlike was now = now.carrier ≡ was.carrier

-- nothing is begun, running or open on the port
abbrev pub ReaderRestsBy : ReaderOf → Type 0
ReaderRestsBy (reader.Din r) = Rests r
ReaderRestsBy (reader.Usb r) = Rests r.reader
ReaderRestsBy (reader.Fire r) = Rests r.reader
ReaderRestsBy (reader.Ble r) = Rests (ble_state.ble_reader r.packets)

abbrev pub ReaderRests : PortReader → Type 0
ReaderRests r = ReaderRestsBy r.carrier

-- what breaks a message stands next: a status in the input, or the end of a BLE-MIDI packet
abbrev pub BrokenNextBy : ReaderOf → List ℕ → Type 0
BrokenNextBy (reader.Din r) input = StatusNext input
BrokenNextBy (reader.Usb r) input = StatusNext input
BrokenNextBy (reader.Fire r) input = StatusNext input
BrokenNextBy (reader.Ble r) input = ble_stands.BrokenNext r.packets input

abbrev pub BrokenNext : PortReader → List ℕ → Type 0
BrokenNext r input = BrokenNextBy r.carrier input

-- how many bytes it took
abbrev pub reader_offset_by : ReaderOf → ℕ
reader_offset_by (reader.Din r) = r.offset
reader_offset_by (reader.Usb r) = usb_state.cable_offset r
reader_offset_by (reader.Fire r) = fire_state.port_offset r
reader_offset_by (reader.Ble r) = ble_state.ble_offset r.packets

abbrev pub reader_offset : PortReader → ℕ
reader_offset r = reader_offset_by r.carrier

-- how much may be told before a byte is taken
abbrev pub reader_owed_by : ReaderOf → ℕ
reader_owed_by (reader.Din r) = din_state.owed r
reader_owed_by (reader.Usb r) = usb_state.cable_owed r
reader_owed_by (reader.Fire r) = fire_state.port_owed r
reader_owed_by (reader.Ble r) = ble_state.ble_owed r.packets

abbrev pub reader_owed : PortReader → ℕ
reader_owed r = reader_owed_by r.carrier

-- the moment of what was told last, where one was set: that one, if the carrier has no clock
abbrev pub reader_moment_by : ReaderOf → (moment_set : ℕ) → ℕ
reader_moment_by (reader.Din r) moment_set = moment_set
reader_moment_by (reader.Usb r) moment_set = moment_set
reader_moment_by (reader.Fire r) moment_set = moment_set
reader_moment_by (reader.Ble r) moment_set = ble_state.ble_moment r.packets

abbrev pub reader_moment : PortReader → (moment_set : ℕ) → ℕ
reader_moment r moment_set = reader_moment_by r.carrier moment_set

-- the moment that was set
abbrev pub moment_set : PortReader → ℕ
moment_set r = r.moment

-- the bytes of the port that stand side by side at the front of an input, as far as is known
abbrev pub beside_by : ReaderOf → List ℕ → List ℕ
beside_by (reader.Din r) input = input
beside_by (reader.Usb r) input = take (usb_state.cable_to_come r) input
beside_by (reader.Fire r) input = take (fire_state.port_to_come r) input
beside_by (reader.Ble r) input = take (ble_state.ble_to_come r.packets) input

abbrev pub beside : PortReader → List ℕ → List ℕ
beside r input = beside_by r.carrier input

-- the bytes that it took stop inside a packet
abbrev pub is_partial_by : ReaderOf → Bool
is_partial_by (reader.Din r) = false
is_partial_by (reader.Usb r) = not (usb_state.cable_taken r == 0)
is_partial_by (reader.Fire r) = fire_state.port_partial r
is_partial_by (reader.Ble r) = frames.is_partial (ble_state.ble_frames r.packets)

abbrev pub is_partial : PortReader → Bool
is_partial r = is_partial_by r.carrier
