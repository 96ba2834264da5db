use Rattle.std.proofs.Common.{ℕ, List, [], ◌∙◌, refl, sym, ap, subst, arith}
use Rattle.mb_carrier.specs.Carrier.{den, notes_of, whole}
use Rattle.mb_carrier.proofs.ConversionLemmas.{through-means, through-clean, through-whole}
use Rattle.mb_words.specs.Command.{Converting, Listing, Migrating, RecordingTape, PlayingFile, GuardingTape}
use Rattle.mb_words.specs.Command.{FilteringTape, Selftesting}
use Rattle.mb_top.specs.Task.{with_rules}
use Rattle.mb_words.proofs.CommandLemmas.{written_specs}
use Rattle.mb_top.specs.Output.{HasNotes, HasNoNotes}
use Rattle.mb_top.specs.Answer.{Says, code_of, read_all}
use Rattle.mb_top.specs.declared.status.Status.TheVariants.{Done, Noted, Stopped}
use Rattle.mb_top.specs.declared.status.Stop.TheVariants.{Refused}
use Rattle.mb_top.proofs.AnswerLemmas.{went_through, ends-at_status, cut-at_end, reads_all, completes}
use Rattle.mb_top.proofs.AnswerLemmas.{is_canonical, usage_only, is_meant, read_faults, write_fault, no_write_fault}
use Rattle.mb_top.proofs.DistanceLemmas.{keeps_distances}
use Rattle.mb_top.proofs.AnswerLemmas.{wants_memory, noted_alone, no_fault, tape_alone, file_alone, one-reads}
use Rattle.mb_top.proofs.AnswerLemmas.{reader-streams, rig_alone, rules_alone, selftest-ends, streamed, tallied}
use Rattle.mb_top.proofs.TaskLemmas.{ends-plain, memory-task, no_notes-task, notes-task, plain-reader, plain-rewrites}
use Rattle.mb_top.proofs.TaskLemmas.{reader-task, rewrites-task, tape-task}
use Rattle.mb_top.proofs.RigClaimLemmas.{all-gave, bad-link, long-link, merged, merged-front, merged-part}
use Rattle.mb_top.proofs.RigClaimLemmas.{merged-unread, rig-alone-given, rig-judged, run-cut, runs}
use Rattle.mb_top.proofs.RigSeenLemmas.{answered, gave, seen-answer}
use Rattle.mb_top.proofs.FilteredLemmas.{filter-did, filtered-meaning, filters-completes, none-filtered, rules-judged}
use Rattle.mb_top.proofs.CarriedLemmas.{carried, carried-completes, carried-part, carried-task, cut-carried, file-told}
use Rattle.mb_top.proofs.CarriedLemmas.{filter-writes-all, not-four, notes-ended, notes-silent, part-task, shows-none}
use Rattle.mb_top.proofs.CarriedLemmas.{tape-told, tape_fault-told, whole-tape, writes-all}
use Rattle.mb_top.proofs.PlayLemmas.{whole-sound_file}
use Rattle.mb_top.proofs.RecordedLemmas.{Recorded, file-means, recorded-by, records-completes}
use Rattle.mb_stream.specs.Denotation.{denotation}
use Rattle.mb_stream.specs.Puts.{signs_in}
use Rattle.mb_ble.specs.Distances.{message_moments}
use Rattle.mb_track.specs.Track.{track_marks}
use Rattle.mb_tapes.specs.Played.{played}
use Rattle.mb_tapes.proofs.PlayBackLaw.{played-means, played-moments}
use Rattle.mb_carrier.specs.declared.spec.Spec.TheVariants.{Din}
use Rattle.mb_top.proofs.MigrationLemmas as tape
use Rattle.mb_top.proofs.SoFarLemmas.{live_written, so_far-lacks, so_far-held, so_far-stays, so_far-ends, so_far-front}
use Rattle.mb_top.proofs.entry.bridge_within.Goals as goal

pub returns-clause-contents : goal.returns-clause-contents
returns-clause-contents g c = λ tells.
    let words = c.say.ensures.said tells in
    let text = c.as_slice.ensures.value ∙ c.text.ensures in
    answered _ _ _ _ _ _ _ _ _ _ _ c.run-status.result _ words.0 (omega (arith, c.code.ensures))
    c.run-status.ensures.may (c.run-status.ensures.did tells) c.run-status.ensures.faults words.1
    (subst (Says _ words.0) text words.2) (λ all_said. words.3 (all_said ∙ sym text))

pub returns-clause-headline : goal.returns-clause-headline
returns-clause-headline g c = λ tally first between last tells m all.
    let t = went_through _ _ _ _ _ _ _ (Converting tally first between last) refl all m
    (returns-clause-contents g c tells) in
    let are = written_specs _ tally first between last m in
    ap (den last) t.output_is ∙ through-means first between last _ are.0 are.1

pub returns-clause-exact : goal.returns-clause-exact
returns-clause-exact g c = λ tally first between last tells m all.
    (went_through _ _ _ _ _ _ _ (Converting tally first between last) refl all m
    (returns-clause-contents g c tells)).output_is

pub returns-clause-clean : goal.returns-clause-clean
returns-clause-clean g c = λ tally first between last tells m all.
    let t = went_through _ _ _ _ _ _ _ (Converting tally first between last) refl all m
    (returns-clause-contents g c tells) in
    ap (notes_of last) t.output_is
    ∙ through-clean first between last _ (written_specs _ tally first between last m).1

pub returns-clause-whole : goal.returns-clause-whole
returns-clause-whole g c = λ tally first between last tells m all.
    let t = went_through _ _ _ _ _ _ _ (Converting tally first between last) refl all m
    (returns-clause-contents g c tells) in
    ap (whole last) t.output_is ∙ through-whole first between last _

pub returns-clause-canonical : goal.returns-clause-canonical
returns-clause-canonical g c = λ tally first between last tells m all byte_line.
    let t = went_through _ _ _ _ _ _ _ (Converting tally first between last) refl all m
    (returns-clause-contents g c tells) in
    is_canonical first between last _ _ byte_line t.output_is

pub returns-clause-moments : goal.returns-clause-moments
returns-clause-moments g c = λ tally first between last tells m all.
    keeps_distances first between last _ _ (written_specs _ tally first between last m).0
    (returns-clause-exact g c tally first between last tells m all)

pub returns-clause-so_far : goal.returns-clause-so_far
returns-clause-so_far g c = λ tally first between last tells m part.
    live_written _ _ _ _ _ _ _ (Converting tally first between last) refl part m (returns-clause-contents g c tells)

pub returns-clause-lacks : goal.returns-clause-lacks
returns-clause-lacks g c = λ tally first between last tells m part.
    let are = written_specs _ tally first between last m in
    so_far-lacks first between last _ _ are.0 are.1
    (returns-clause-so_far g c tally first between last tells m part)

pub returns-clause-held_back : goal.returns-clause-held_back
returns-clause-held_back g c = λ tally first between last tells m part.
    let are = written_specs _ tally first between last m in
    so_far-held first between last _ _ are.0 are.1
    (returns-clause-so_far g c tally first between last tells m part)

pub returns-clause-stays : goal.returns-clause-stays
returns-clause-stays g c = λ tally first between last tells m part.
    so_far-stays first between last _ _ (returns-clause-so_far g c tally first between last tells m part)

pub returns-clause-ends : goal.returns-clause-ends
returns-clause-ends g c = λ tally first between last tells m part.
    so_far-ends first between last _ _ (returns-clause-so_far g c tally first between last tells m part)

pub returns-clause-front : goal.returns-clause-front
returns-clause-front g c = λ tally first between last tells m part.
    let are = written_specs _ tally first between last m in
    so_far-front first between last _ _ are.0 are.1
    (returns-clause-so_far g c tally first between last tells m part)

pub returns-clause-tally : goal.returns-clause-tally
returns-clause-tally g c = λ command tells m all.
    tallied _ _ _ _ _ _ _ command all m (returns-clause-contents g c tells)

pub returns-clause-listed : goal.returns-clause-listed
returns-clause-listed g c = λ traced s tells m all.
    (went_through _ _ _ _ _ _ _ (Listing traced s) refl all m (returns-clause-contents g c tells)).output_is

pub returns-clause-no_note : goal.returns-clause-no_note
returns-clause-no_note g c = λ command s tells m reads zero.
    let plain = plain-reader command s reads in
    let d = ends-at_status _ _ _ _ _ _ _ command Done plain refl zero m (returns-clause-contents g c tells) in
    subst (HasNoNotes command) (sym ((d.0).all (one-reads _ s (reader-task command s reads))))
    (no_notes-task command _ d.2)

pub returns-clause-a_note : goal.returns-clause-a_note
returns-clause-a_note g c = λ command s tells m reads one.
    let plain = plain-reader command s reads in
    let d = ends-at_status _ _ _ _ _ _ _ command Noted plain refl one m (returns-clause-contents g c tells) in
    subst (HasNotes command) (sym ((d.0).all (one-reads _ s (reader-task command s reads))))
    (notes-task command _ d.2)

pub returns-clause-all_read : goal.returns-clause-all_read
returns-clause-all_read g c = λ command s tells m reads all. sym
    ((went_through _ _ _ _ _ _ _ command (plain-reader command s reads) all m
    (returns-clause-contents g c tells)).all (one-reads _ s (reader-task command s reads)))

pub returns-clause-cut : goal.returns-clause-cut
returns-clause-cut g c = λ command s tells m reads all. cut-at_end _ _ _ _ _ _ _ command s reads all m
    (returns-clause-contents g c tells)

pub returns-clause-usage : goal.returns-clause-usage
returns-clause-usage g c = usage_only _ c.run-status.result _ c.code.ensures c.run-status.ensures.may

pub returns-clause-meant : goal.returns-clause-meant
returns-clause-meant g c = is_meant _ c.run-status.result _ c.code.ensures c.run-status.ensures.may

pub returns-clause-reads_all : goal.returns-clause-reads_all
returns-clause-reads_all g c = λ command s tells m reads unhindered short unwanted.
    ap read_all c.code.ensures
    ∙ reads_all _ _ _ _ _ _ c.run-status.result command (with_rules [] command) m c.run-status.ensures.may
    (λ e. (read_faults _ _ _ _ _ _ c.run-status.result _ c.code.ensures c.say.ensures.reads c.run-status.ensures.faults).0
    (c.code.ensures ∙ ap code_of e))
    (λ e. write_fault _ _ _ _ _ _ c.run-status.result _ c.code.ensures c.say.ensures.writes c.run-status.ensures.faults
    (c.code.ensures ∙ ap code_of e))
    unhindered.reading unhindered.writing short
    (λ input f front. no_fault (with_rules [] command) s input f (reader-task command s reads)
    (memory-task [] command ∙ unwanted))
    (streamed _ _ _ _ c.run-status.result command (reader-streams command s reads) m (c.run-status.ensures.did tells))
    (let ran = streamed _ _ _ _ c.run-status.result command (reader-streams command s reads) m
    (c.run-status.ensures.did tells) in
    ends-plain command _ (g.D.Desk.contents c.args.desk.now) ran.start ran.input ran.output ran.tally _ (plain-reader command s reads) (ran.ends command m))

pub returns-clause-complete : goal.returns-clause-complete
returns-clause-complete g c = λ tally first between last tells m unhindered short is_whole.
    completes _ _ _ _ _ _ _ tally first between last
    (returns-clause-reads_all g c
    (Converting tally first between last) first tells m refl unhindered short refl) m is_whole
    (returns-clause-contents g c tells)

pub returns-clause-read_fault : goal.returns-clause-read_fault
returns-clause-read_fault g c =
    (read_faults _ _ _ _ _ _ c.run-status.result _ c.code.ensures c.say.ensures.reads c.run-status.ensures.faults).0

pub returns-clause-read_fault_told : goal.returns-clause-read_fault_told
returns-clause-read_fault_told g c =
    (read_faults _ _ _ _ _ _ c.run-status.result _ c.code.ensures c.say.ensures.reads c.run-status.ensures.faults).1

pub returns-clause-write_fault : goal.returns-clause-write_fault
returns-clause-write_fault g c = write_fault _ _ _ _ _ _ c.run-status.result _ c.code.ensures c.say.ensures.writes
    c.run-status.ensures.faults

pub returns-clause-write_fault_told : goal.returns-clause-write_fault_told
returns-clause-write_fault_told g c =
    no_write_fault _ _ _ _ _ _ c.run-status.result _ c.code.ensures
    (λ none. c.say.ensures.quiet (c.as_slice.ensures.value ∙ (c.text.ensures ∙ none))) c.run-status.ensures.faults

pub returns-clause-memory : goal.returns-clause-memory
returns-clause-memory g c = wants_memory _ c.run-status.result _ c.code.ensures c.run-status.ensures.may

pub returns-clause-noted_alone : goal.returns-clause-noted_alone
returns-clause-noted_alone g c = noted_alone _ c.run-status.result _ c.code.ensures c.run-status.ensures.may

pub returns-clause-bad_tape_alone : goal.returns-clause-bad_tape_alone
returns-clause-bad_tape_alone g c = tape_alone _ c.run-status.result _ c.code.ensures c.run-status.ensures.may

pub returns-clause-given : goal.returns-clause-given
returns-clause-given g c = λ tells. (returns-clause-contents g c tells).given

pub returns-clause-migrated : goal.returns-clause-migrated
returns-clause-migrated g c = λ tells m other.
    (carried _ _ _ _ _ _ _ Migrating refl m other (returns-clause-contents g c tells)).written_is

pub returns-clause-same_records : goal.returns-clause-same_records
returns-clause-same_records g c = λ tells m other bytes.
    tape.same-records _ _ (returns-clause-migrated g c tells m other) bytes

pub returns-clause-played : goal.returns-clause-played
returns-clause-played g c = λ tells m other.
    (carried _ _ _ _ _ _ _ PlayingFile refl m other
    (returns-clause-contents g c tells)).written_is

pub returns-clause-guarded : goal.returns-clause-guarded
returns-clause-guarded g c = λ s tells m other.
    (carried _ _ _ _ _ _ _ (GuardingTape s) refl m other
    (returns-clause-contents g c tells)).written_is

pub returns-clause-notes_ended : goal.returns-clause-notes_ended
returns-clause-notes_ended g c = λ s tells m other bytes.
    notes-ended s _ _ _ _
    (carried _ _ _ _ _ _ _ (GuardingTape s) refl m other
    (returns-clause-contents g c tells)) bytes

pub returns-clause-silent : goal.returns-clause-silent
returns-clause-silent g c = λ s tells m other bytes.
    notes-silent s _ _ _ _
    (carried _ _ _ _ _ _ _ (GuardingTape s) refl m other
    (returns-clause-contents g c tells)) bytes

pub returns-clause-recorded : goal.returns-clause-recorded
returns-clause-recorded g c = λ s tells m all.
    let r = (recorded-by _ _ _ _ _ _ _ s m (returns-clause-contents g c tells)).at_end all in (r.written_is, r.can)

pub returns-clause-recorded_means : goal.returns-clause-recorded_means
returns-clause-recorded_means g c = λ s tells m all.
    file-means s _ _ _ _ ((recorded-by _ _ _ _ _ _ _ s m (returns-clause-contents g c tells)).at_end all)

pub returns-clause-unrecorded : goal.returns-clause-unrecorded
returns-clause-unrecorded g c = λ s tells m. (recorded-by _ _ _ _ _ _ _ s m (returns-clause-contents g c tells)).nothing

pub returns-clause-recorded_part : goal.returns-clause-recorded_part
returns-clause-recorded_part g c = λ s tells m. (recorded-by _ _ _ _ _ _ _ s m (returns-clause-contents g c tells)).part

pub returns-clause-recorded_all : goal.returns-clause-recorded_all
returns-clause-recorded_all g c = λ s tells m all.
    let r = (recorded-by _ _ _ _ _ _ _ s m (returns-clause-contents g c tells)).at_end all in (r.all, r.sound, r.cut)

pub returns-clause-bad_recording : goal.returns-clause-bad_recording
returns-clause-bad_recording g c = λ s tells m. (recorded-by _ _ _ _ _ _ _ s m (returns-clause-contents g c tells)).bad

pub returns-clause-long_track : goal.returns-clause-long_track
returns-clause-long_track g c = λ s tells m. (recorded-by _ _ _ _ _ _ _ s m (returns-clause-contents g c tells)).long_track

pub returns-clause-long_gap : goal.returns-clause-long_gap
returns-clause-long_gap g c = λ s tells m. (recorded-by _ _ _ _ _ _ _ s m (returns-clause-contents g c tells)).long_gap

pub returns-clause-plays_back : goal.returns-clause-plays_back
returns-clause-plays_back g c = λ tells m other s tape can is.
    ap (λ (bytes : List ℕ). denotation (signs_in (track_marks Din 0 bytes)))
    (returns-clause-played g c tells m other ∙ ap played is)
    ∙ played-means (track_marks s 0 tape) can

pub returns-clause-plays_back_at : goal.returns-clause-plays_back_at
returns-clause-plays_back_at g c = λ tells m other s tape can is.
    ap (λ (bytes : List ℕ). message_moments (track_marks Din 0 bytes))
    (returns-clause-played g c tells m other ∙ ap played is)
    ∙ played-moments (track_marks s 0 tape) can

pub returns-clause-records : goal.returns-clause-records
returns-clause-records g c = λ s tells m unhindered short is_whole.
    subst Recorded (sym c.code.ensures)
    (records-completes _ _ _ _ _ _ c.run-status.result s m c.run-status.ensures.may
    (λ e. (read_faults _ _ _ _ _ _ c.run-status.result _ c.code.ensures c.say.ensures.reads c.run-status.ensures.faults).0
    (c.code.ensures ∙ ap code_of e))
    (λ e. write_fault _ _ _ _ _ _ c.run-status.result _ c.code.ensures c.say.ensures.writes c.run-status.ensures.faults
    (c.code.ensures ∙ ap code_of e))
    unhindered.reading unhindered.writing short is_whole
    (λ input told front. tape.whole-sound_tape _ input told
    (whole-tape s ((g.D.Desk.contents c.args.desk.now).left 0) is_whole) front)
    (streamed _ _ _ _ c.run-status.result (RecordingTape s) refl m (c.run-status.ensures.did tells))
    (let ran = streamed _ _ _ _ c.run-status.result (RecordingTape s) refl m (c.run-status.ensures.did tells) in
    ends-plain (RecordingTape s) _ (g.D.Desk.contents c.args.desk.now) ran.start ran.input ran.output ran.tally _ refl (ran.ends (RecordingTape s) m)))

pub returns-clause-rewritten_part : goal.returns-clause-rewritten_part
returns-clause-rewritten_part g c = λ command tells m all four.
    carried-part _ _ _ _ _ _ _ command (plain-rewrites command all) m four (returns-clause-contents g c tells)

pub returns-clause-bad_tape : goal.returns-clause-bad_tape
returns-clause-bad_tape g c = λ command all reads tells m other.
    tape_fault-told (with_rules [] command) _ _ (rewrites-task [] command ∙ all) (tape-task [] command ∙ reads)
    (carried _ _ _ _ _ _ _ command all m other (returns-clause-contents g c tells)).told

pub returns-clause-bad_file : goal.returns-clause-bad_file
returns-clause-bad_file g c = λ tells m other.
    file-told _ _ (carried _ _ _ _ _ _ _ PlayingFile refl m other
    (returns-clause-contents g c tells)).told

pub returns-clause-cut_rewriting : goal.returns-clause-cut_rewriting
returns-clause-cut_rewriting g c = λ command all tells m other.
    cut-carried command _ _ _ _ (carried _ _ _ _ _ _ _ command all m other (returns-clause-contents g c tells))

pub returns-clause-bad_file_alone : goal.returns-clause-bad_file_alone
returns-clause-bad_file_alone g c = file_alone _ c.run-status.result _ c.code.ensures c.run-status.ensures.may

pub returns-clause-migrates : goal.returns-clause-migrates
returns-clause-migrates g c = λ tells m unhindered short is_whole.
    carried-completes _ _ _ _ _ _ _ Migrating refl m
    (ap read_all c.code.ensures
    ∙ reads_all _ _ _ _ _ _ c.run-status.result Migrating Migrating m c.run-status.ensures.may
    (λ e. (read_faults _ _ _ _ _ _ c.run-status.result _ c.code.ensures c.say.ensures.reads c.run-status.ensures.faults).0
    (c.code.ensures ∙ ap code_of e))
    (λ e. write_fault _ _ _ _ _ _ c.run-status.result _ c.code.ensures c.say.ensures.writes c.run-status.ensures.faults
    (c.code.ensures ∙ ap code_of e))
    unhindered.reading unhindered.writing short (λ input f front. shows-none Migrating input (writes-all Migrating refl)
    (λ g. tape.whole-sound_tape _ input g is_whole front) f)
    (streamed _ _ _ _ c.run-status.result Migrating refl m (c.run-status.ensures.did tells))
    (let ran = streamed _ _ _ _ c.run-status.result Migrating refl m (c.run-status.ensures.did tells) in
    ends-plain Migrating _ (g.D.Desk.contents c.args.desk.now) ran.start ran.input ran.output ran.tally _ refl (ran.ends Migrating m)))
    is_whole (returns-clause-contents g c tells)

pub returns-clause-plays : goal.returns-clause-plays
returns-clause-plays g c = λ tells m unhindered short ended sound.
    carried-completes _ _ _ _ _ _ _ PlayingFile refl m
    (ap read_all c.code.ensures
    ∙ reads_all _ _ _ _ _ _ c.run-status.result PlayingFile PlayingFile m c.run-status.ensures.may
    (λ e. (read_faults _ _ _ _ _ _ c.run-status.result _ c.code.ensures c.say.ensures.reads c.run-status.ensures.faults).0
    (c.code.ensures ∙ ap code_of e))
    (λ e. write_fault _ _ _ _ _ _ c.run-status.result _ c.code.ensures c.say.ensures.writes c.run-status.ensures.faults
    (c.code.ensures ∙ ap code_of e))
    unhindered.reading unhindered.writing short (λ input f front. shows-none PlayingFile input (writes-all PlayingFile refl)
    (λ g. whole-sound_file _ input g sound front) f)
    (streamed _ _ _ _ c.run-status.result PlayingFile refl m (c.run-status.ensures.did tells))
    (let ran = streamed _ _ _ _ c.run-status.result PlayingFile refl m (c.run-status.ensures.did tells) in
    ends-plain PlayingFile _ (g.D.Desk.contents c.args.desk.now) ran.start ran.input ran.output ran.tally _ refl (ran.ends PlayingFile m)))
    ended (returns-clause-contents g c tells)

pub returns-clause-guards : goal.returns-clause-guards
returns-clause-guards g c = λ s tells m unhindered short is_whole.
    carried-completes _ _ _ _ _ _ _ (GuardingTape s) refl m
    (ap read_all c.code.ensures
    ∙ reads_all _ _ _ _ _ _ c.run-status.result (GuardingTape s) (GuardingTape s) m c.run-status.ensures.may
    (λ e. (read_faults _ _ _ _ _ _ c.run-status.result _ c.code.ensures c.say.ensures.reads c.run-status.ensures.faults).0
    (c.code.ensures ∙ ap code_of e))
    (λ e. write_fault _ _ _ _ _ _ c.run-status.result _ c.code.ensures c.say.ensures.writes c.run-status.ensures.faults
    (c.code.ensures ∙ ap code_of e))
    unhindered.reading unhindered.writing short (λ input f front. shows-none (GuardingTape s) input (writes-all (GuardingTape s) refl)
    (λ told. tape.whole-sound_tape _ input told (whole-tape s ((g.D.Desk.contents c.args.desk.now).left 0) is_whole) front) f)
    (streamed _ _ _ _ c.run-status.result (GuardingTape s) refl m (c.run-status.ensures.did tells))
    (let ran = streamed _ _ _ _ c.run-status.result (GuardingTape s) refl m (c.run-status.ensures.did tells) in
    ends-plain (GuardingTape s) _ (g.D.Desk.contents c.args.desk.now) ran.start ran.input ran.output ran.tally _ refl (ran.ends (GuardingTape s) m)))
    is_whole (returns-clause-contents g c tells)

pub returns-clause-filtered : goal.returns-clause-filtered
returns-clause-filtered g c = λ file s tells m judged silent.
    let a = returns-clause-contents g c tells in
    let b = filter-did _ _ _ _ _ _ _ file s m judged silent a in (
      b.rules,
      b.got_them,
      λ other.
          (carried-task _ _ _ _ _ _ _ (FilteringTape b.rules s) (filter-writes-all b.rules s) other a b.holds).written_is,
    )

pub returns-clause-filtered_part : goal.returns-clause-filtered_part
returns-clause-filtered_part g c = λ file s tells m judged silent.
    let a = returns-clause-contents g c tells in
    let b = filter-did _ _ _ _ _ _ _ file s m judged silent a in
    (b.rules, b.got_them, λ four. part-task _ _ _ _ _ _ _ (FilteringTape b.rules s) four a b.holds)

pub returns-clause-filtered_means : goal.returns-clause-filtered_means
returns-clause-filtered_means g c = λ file s tells m judged silent.
    let a = returns-clause-contents g c tells in
    let b = filter-did _ _ _ _ _ _ _ file s m judged silent a in (
      b.rules,
      b.got_them,
      λ other bytes.
          filtered-meaning b.rules s _ _ _ _
          (carried-task _ _ _ _ _ _ _ (FilteringTape b.rules s) (filter-writes-all b.rules s) other a b.holds) bytes,
    )

pub returns-clause-filtered_fault : goal.returns-clause-filtered_fault
returns-clause-filtered_fault g c = λ file s tells m judged silent.
    let a = returns-clause-contents g c tells in
    let b = filter-did _ _ _ _ _ _ _ file s m judged silent a in (
      b.rules,
      b.got_them,
      λ other.
          tape-told _ _
          (carried-task _ _ _ _ _ _ _ (FilteringTape b.rules s) (filter-writes-all b.rules s) other a b.holds).told,
    )

pub returns-clause-filtered_all : goal.returns-clause-filtered_all
returns-clause-filtered_all g c = λ file s tells m judged silent.
    let a = returns-clause-contents g c tells in
    let b = filter-did _ _ _ _ _ _ _ file s m judged silent a in (
      b.rules,
      b.got_them,
      λ all.
          (carried-task _ _ _ _ _ _ _ (FilteringTape b.rules s) (filter-writes-all b.rules s) (not-four _ all) a
          b.holds).end all,
    )

pub returns-clause-bad_rules : goal.returns-clause-bad_rules
returns-clause-bad_rules g c = λ file s tells m.
    rules-judged _ _ _ _ _ _ _ file s m (returns-clause-contents g c tells)

pub returns-clause-unfiltered : goal.returns-clause-unfiltered
returns-clause-unfiltered g c = λ file s tells m.
    none-filtered _ _ _ _ _ _ _ file s m (returns-clause-contents g c tells)

pub returns-clause-bad_rules_alone : goal.returns-clause-bad_rules_alone
returns-clause-bad_rules_alone g c = rules_alone _ c.run-status.result _ c.code.ensures c.run-status.ensures.may

pub returns-clause-filters : goal.returns-clause-filters
returns-clause-filters g c = λ file s tells m unhindered short is_whole.
    filters-completes _ _ _ _ _ _ _ _ _ _ c.run-status.result file s m c.run-status.ensures.may
    (λ e. (read_faults _ _ _ _ _ _ c.run-status.result _ c.code.ensures c.say.ensures.reads c.run-status.ensures.faults).0
    (c.code.ensures ∙ ap code_of e))
    (λ e. write_fault _ _ _ _ _ _ c.run-status.result _ c.code.ensures c.say.ensures.writes c.run-status.ensures.faults
    (c.code.ensures ∙ ap code_of e))
    unhindered.reading unhindered.writing short is_whole
    (streamed _ _ _ _ c.run-status.result (FilteringTape file s) refl m (c.run-status.ensures.did tells)) c.code.ensures
    (returns-clause-contents g c tells)

pub returns-clause-selftest : goal.returns-clause-selftest
returns-clause-selftest g c = λ start count tells m zero.
    ((ends-at_status _ _ _ _ _ _ _ (Selftesting start count) Done refl refl zero m
    (returns-clause-contents g c tells)).0).output_is

pub returns-clause-selftest_front : goal.returns-clause-selftest_front
returns-clause-selftest_front g c = λ start count tells m four.
    (ends-at_status _ _ _ _ _ _ _ (Selftesting start count) (Stopped Refused) refl refl four m
    (returns-clause-contents g c tells)).front

pub returns-clause-selftest_ends : goal.returns-clause-selftest_ends
returns-clause-selftest_ends g c = λ start count m.
    selftest-ends _ start count c.run-status.result _ c.code.ensures c.run-status.ensures.may m

-- a rig that is run

pub returns-clause-merged : goal.returns-clause-merged
returns-clause-merged g c = λ file tells m all.
    let a = returns-clause-contents g c tells in
    merged file _ _ _ a.status _ a.number (seen-answer _ _ _ _ _ _ _ file m a) all

pub returns-clause-run_cut : goal.returns-clause-run_cut
returns-clause-run_cut g c = λ file tells m all.
    let a = returns-clause-contents g c tells in
    run-cut file _ _ _ a.status _ a.number (seen-answer _ _ _ _ _ _ _ file m a) all

pub returns-clause-merged_front : goal.returns-clause-merged_front
returns-clause-merged_front g c = λ file tells m stopped.
    let a = returns-clause-contents g c tells in
    merged-front file _ _ _ a.status _ a.number (seen-answer _ _ _ _ _ _ _ file m a) stopped

pub returns-clause-merged_unread : goal.returns-clause-merged_unread
returns-clause-merged_unread g c = λ file tells m three.
    let a = returns-clause-contents g c tells in
    merged-unread file _ _ _ a.status _ a.number (seen-answer _ _ _ _ _ _ _ file m a) three

pub returns-clause-merged_part : goal.returns-clause-merged_part
returns-clause-merged_part g c = λ file tells m four.
    let a = returns-clause-contents g c tells in
    merged-part file _ _ _ a.status _ a.number (seen-answer _ _ _ _ _ _ _ file m a) four

pub returns-clause-bad_link : goal.returns-clause-bad_link
returns-clause-bad_link g c = λ file tells m seven.
    let a = returns-clause-contents g c tells in
    bad-link file _ _ _ a.status _ a.number (seen-answer _ _ _ _ _ _ _ file m a) seven

pub returns-clause-long_link : goal.returns-clause-long_link
returns-clause-long_link g c = λ file tells m eight.
    let a = returns-clause-contents g c tells in
    long-link file _ _ _ a.status _ a.number (seen-answer _ _ _ _ _ _ _ file m a) eight

pub returns-clause-run_gives : goal.returns-clause-run_gives
returns-clause-run_gives g c = λ file tells m.
    let a = returns-clause-contents g c tells in
    let d = seen-answer _ _ _ _ _ _ _ file m a in (
      gave file _ _ _ a.status d,
      λ all. all-gave file _ _ _ a.status _ a.number d all,
      λ few. rig-alone-given file _ _ _ a.status _ a.number d few,
    )

pub returns-clause-bad_rig : goal.returns-clause-bad_rig
returns-clause-bad_rig g c = λ file tells m.
    let a = returns-clause-contents g c tells in
    rig-judged file _ _ _ a.status _ a.number (seen-answer _ _ _ _ _ _ _ file m a)

pub returns-clause-bad_rig_alone : goal.returns-clause-bad_rig_alone
returns-clause-bad_rig_alone g c = rig_alone _ c.run-status.result _ c.code.ensures c.run-status.ensures.may

pub returns-clause-runs : goal.returns-clause-runs
returns-clause-runs g c = λ file tells m s unhindered read short all.
    let a = returns-clause-contents g c tells in
    runs file _ _ _ a.status _ a.number (seen-answer _ _ _ _ _ _ _ file m a)
    (λ three. unhindered.reading (returns-clause-read_fault g c three))
    (λ four. unhindered.writing (returns-clause-write_fault g c four)) s read short all
