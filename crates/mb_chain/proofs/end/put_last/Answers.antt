use Rattle.std.proofs.Common.{List, ◌≡◌, [], ◌∙◌, refl, ap, subst}
use Rattle.mb_message.specs.declared.event.Seen.{Seen}
use Rattle.mb_message.specs.declared.event.Seen.TheVariants as seen
use Rattle.mb_stream.specs.Reading.{told_signs}
use Rattle.mb_stream.specs.ReaderLaw.{answer, told_by}
use Rattle.mb_carrier.specs.Carrier.{longest_of}
use Rattle.mb_carrier.specs.Port.{reader_spec, reader_moment, ReaderStands, writer_spec, WriterStands}
use Rattle.mb_chain.proofs.EndLemmas.{last-suits, last-short, last-put, last-none, end-told}
use Rattle.mb_chain.proofs.end.put_last.Goals as goal

pub put-requires-clause-suits : goal.put-requires-clause-suits
put-requires-clause-suits c =
    last-suits (reader_spec c.args.reader.now) (ReaderStands c.args.reader.now) c.args.writer.now _ _ c.in-Some-Ev.ev
    (end-told (reader_spec c.args.reader.now) (ReaderStands c.args.reader.now) (reader_moment c.finish.new.self) _ _ _
    (told_by (seen.Ev c.in-Some-Ev.ev))
    (ap answer c.in-Some-Ev.is
    ∙ ap told_by c.in-Some-Ev.field-0-is) c.moment-at.ensures c.finish.ensures.told c.finish.ensures.at)
    c.requires.stands

pub put-requires-clause-run : goal.put-requires-clause-run
put-requires-clause-run c =
    last-short (longest_of (writer_spec c.args.writer.now)) (reader_spec c.args.reader.now)
    (ReaderStands c.args.reader.now) (WriterStands c.args.writer.now) _ _ c.in-Some-Ev.ev
    (end-told (reader_spec c.args.reader.now) (ReaderStands c.args.reader.now) (reader_moment c.finish.new.self) _ _ _
    (told_by (seen.Ev c.in-Some-Ev.ev))
    (ap answer c.in-Some-Ev.is
    ∙ ap told_by c.in-Some-Ev.field-0-is) c.moment-at.ensures c.finish.ensures.told c.finish.ensures.at)
    (subst (λ (x : Seen). told_by x ≡ [] → ⊥) c.in-Some-Ev.field-0-is c.in-Some-Ev.ensures.some) c.requires.stands

pub returns-in-Some-Ev-clause-put : goal.returns-in-Some-Ev-clause-put
returns-in-Some-Ev-clause-put c =
    last-put (reader_spec c.args.reader.now) (writer_spec c.args.writer.now) (ReaderStands c.args.reader.now)
    (WriterStands c.args.writer.now) (WriterStands c.put.new.self) _ _ c.in-Some-Ev.ev _ _
    (end-told (reader_spec c.args.reader.now) (ReaderStands c.args.reader.now) (reader_moment c.finish.new.self) _ _ _
    (told_by (seen.Ev c.in-Some-Ev.ev))
    (ap answer c.in-Some-Ev.is
    ∙ ap told_by c.in-Some-Ev.field-0-is) c.moment-at.ensures c.finish.ensures.told c.finish.ensures.at)
    c.requires.empty c.put.ensures.stands c.put.ensures.written

pub returns-in-Some-Note-clause-put : goal.returns-in-Some-Note-clause-put
returns-in-Some-Note-clause-put c =
    last-none (reader_spec c.args.reader.now) (writer_spec c.args.writer.now) (ReaderStands c.args.reader.now)
    (WriterStands c.args.writer.now) _ _ _ _
    (end-told (reader_spec c.args.reader.now) (ReaderStands c.args.reader.now) (reader_moment c.finish.new.self) _ _ _
    (answer c.finish.result) refl c.moment.ensures c.finish.ensures.told c.finish.ensures.at)
    c.requires.empty (ap (λ x. told_signs (answer x)) c.in-Some-Note.is
    ∙ ap (λ x. told_signs (told_by x)) c.in-Some-Note.field-0-is)

pub returns-in-None-clause-put : goal.returns-in-None-clause-put
returns-in-None-clause-put c =
    last-none (reader_spec c.args.reader.now) (writer_spec c.args.writer.now) (ReaderStands c.args.reader.now)
    (WriterStands c.args.writer.now) _ _ _ _
    (end-told (reader_spec c.args.reader.now) (ReaderStands c.args.reader.now) (reader_moment c.finish.new.self) _ _ _
    (answer c.finish.result) refl c.moment-in-None.ensures c.finish.ensures.told c.finish.ensures.at)
    c.requires.empty (ap (λ x. told_signs (answer x)) c.in-None.is)
