-- Lines of marks and of notes, byte by byte.
use Rattle.std.specs.Prelude.{◌≡◌, true, false, codes, refl}
use Rattle.std.specs.Fmt.{digits}
use Rattle.mb_message.specs.Signs.{ShortSign, RtSign, OpenSign, ByteSign, EndSign, AbortSign}
use Rattle.mb_message.specs.declared.note.NoteKind.TheVariants.{StrayData, NoMidiQuadlet}
use Rattle.mb_print.specs.Lines.{mark_text, note_text, report_text}
use Rattle.mb_print.specs.declared.lines.Kind.TheVariants.{M, S, B, R}

three_bytes : mark_text 1250 (ShortSign 0x90 0x3c 0x64) ≡ codes "1250 short 90 3C 64\n"
unfolding digits
three_bytes = refl

two_bytes : mark_text 0 (ShortSign 0xc5 0x0a 0) ≡ codes "0 short C5 0A\n"
unfolding digits
two_bytes = refl

one_byte : mark_text 10 (ShortSign 0xf6 0 0) ≡ codes "10 short F6\n"
unfolding digits
one_byte = refl

realtime : mark_text 18446744073709551615 (RtSign 0xf8) ≡ codes "18446744073709551615 rt F8\n"
unfolding digits
realtime = refl

opens : mark_text 0 OpenSign ≡ codes "0 open\n"
unfolding digits
opens = refl

data_byte : mark_text 0 (ByteSign 0x7f) ≡ codes "0 data 7F\n"
unfolding digits
data_byte = refl

ends : mark_text 7 EndSign ≡ codes "7 end\n"
unfolding digits
ends = refl

breaks : mark_text 7 AbortSign ≡ codes "7 abort\n"
unfolding digits
breaks = refl

checked : note_text false 12 StrayData ≡ codes "12 stray-data\n"
unfolding digits
checked = refl

among_marks : note_text true 9 NoMidiQuadlet ≡ codes "note 9 no-midi-quadlet\n"
unfolding digits
among_marks = refl

short_passed : report_text 1 2 1 M ≡ codes "1 2 1 M\n"
unfolding digits
short_passed = refl

sysex_ended : report_text 2 2 0 S ≡ codes "2 2 0 S\n"
unfolding digits
sysex_ended = refl

sysex_broken : report_text 0 18446744073709551 15 B ≡ codes "0 18446744073709551 15 B\n"
unfolding digits
sysex_broken = refl

realtime_passed : report_text 10 10 9 R ≡ codes "10 10 9 R\n"
unfolding digits
realtime_passed = refl
