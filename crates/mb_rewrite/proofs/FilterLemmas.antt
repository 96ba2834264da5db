-- Rules beside a byte line's tape.
use Rattle.std.proofs.Common.{◌≡◌, ℕ, ◌≤◌, ◌<◌, ◌^◌, Bool, true, false, List, [], ◌∷◌, ◌++◌, refl, sym, ◌∙◌, ap, subst}
use Rattle.std.proofs.Common.{arith, append_assoc, append-nil, flat_map, length, Option, Some, None, is_none}
use Rattle.std.proofs.lemmas.List.Concat.{flat_map-append}
use Rattle.mb_message.specs.Signs.{Sign, open_behind, signs_of_event, suits_event}
use Rattle.mb_message.specs.declared.event.Ev.{Ev}
use Rattle.mb_stream.specs.Puts.{At, Flush, Put, puts_at, signs_in}
use Rattle.mb_stream.specs.Standing.{is_open, suited}
use Rattle.mb_stream.proofs.EventLemmas.{open_from-event}
use Rattle.mb_stream.proofs.PutsLemmas.{signs_in-append, signs_in-at}
use Rattle.mb_stream.proofs.StandingLemmas.{apart, is_open-append, open_from}
use Rattle.mb_frames.specs.declared.tape.TapeFault.{TapeFault}
use Rattle.mb_filter.specs.Mapped.{mapped_marks, mapped_sign}
use Rattle.mb_filter.specs.Mapper.{Mapping, kept, mapping}
use Rattle.mb_filter.specs.declared.rule.Rule.{Rule}
use Rattle.mb_filter.proofs.SuitLemmas.{mapped-suits}
use Rattle.mb_carrier.proofs.PutLemmas.{puts_at-append}
use Rattle.mb_track.specs.Track.{track_end, track_marks, track_marks_so_far}
use Rattle.mb_track.specs.TrackReading.{TrackTold, event_signs, track_moment, track_of, track_offset, track_spec}
use Rattle.mb_track.proofs.FrontLemmas.{all-suit}
use Rattle.mb_rewrite.specs.Filtered.{filtered_so_far, filtered_tape, mapped_put, mapped_puts}
use Rattle.mb_rewrite.specs.Guarding.{Rewrote}
use Rattle.mb_rewrite.specs.Rewriting.{Rewriting}
use Rattle.mb_rewrite.specs.Filtering.{FilterEndHalted, FilterEndHeard, FilterHasTold, FilteringStands, MapsBehind, MaySuit}
use Rattle.mb_rewrite.specs.Filtering.{filtering_rules, filtering_spec}
use Rattle.mb_rewrite.specs.Line.{LineHalted, LineStands, LineWrote}
use Rattle.mb_rewrite.specs.LineTape.{line_tape}
use Rattle.mb_rewrite.specs.declared.filtering.Filtering.{Filtering}
use Rattle.mb_rewrite.specs.declared.line.LineTape.{LineTape}
use Rattle.mb_rewrite.proofs.FeedLemmas.{Before, Stood, Suiting, live_of}
use Rattle.mb_rewrite.proofs.LineLemmas.{begun-stands, wrote-none}

-- marks behind rules

pub mapped-at : (rules : List Rule) (m : ℕ) (signs : List Sign) →
    mapped_puts rules (puts_at m signs) ≡ puts_at m (mapped_marks rules signs)
mapped-at rules m [] = refl
mapped-at rules m (s ∷ signs) =
    ap (λ ps. puts_at m (mapped_sign rules s) ++ ps) (mapped-at rules m signs)
    ∙ sym (puts_at-append m (mapped_sign rules s) (mapped_marks rules signs))

pub mapped-signs : (rules : List Rule) (puts : List Put) →
    signs_in (mapped_puts rules puts) ≡ mapped_marks rules (signs_in puts)
mapped-signs rules [] = refl
mapped-signs rules (At m s ∷ puts) =
    signs_in-append (puts_at m (mapped_sign rules s)) (mapped_puts rules puts)
    ∙ (ap (λ ms. ms ++ signs_in (mapped_puts rules puts)) (signs_in-at m (mapped_sign rules s))
    ∙ ap (λ ms. mapped_sign rules s ++ ms) (mapped-signs rules puts))
mapped-signs rules (Flush ∷ puts) = mapped-signs rules puts

-- where feeding or finishing began
abbrev pub before_of : Filtering → Before
before_of f = record {
  made = mapped_puts (filtering_rules f);
  none = refl;
  joins = λ xs ys. flat_map-append (mapped_put (filtering_rules f)) xs ys;
  keeps = MapsBehind f.mapper;
  track = f.track;
  line = f.line;
}

pub new-stands : (f : Filtering) (rules : List Rule) → TrackTold f.track [] → track_of f.track ≡ 0 →
    track_offset f.track ≡ 0 → f.mapper ≡ mapping rules false → LineStands f.line [] → f.line.begun ≡ false →
    FilteringStands f []
new-stands f rules told track offset maps line begun = record {
  so_far = record {
    told = told;
    of_track = track;
    kept = maps ∙ ap (λ (rs : List Rule). mapping rs false) (sym (ap (λ (z : Mapping). z.rules) maps));
    written = line;
  };
  offset = omega (arith, offset);
  begun = begun;
}

-- the mapper goes on

pub maps-behind : (m now : Mapping) (e : Ev) → suits_event m.in_sysex e ≡ true →
    now ≡ mapping m.rules (open_behind m.in_sysex e) → (marks : List Sign) → MapsBehind m marks →
    MapsBehind now (marks ++ signs_of_event e)
maps-behind m now e suits is marks behind =
    let open_now : m.in_sysex ≡ is_open marks = ap (λ (z : Mapping). z.in_sysex) behind in
    let more : is_open (marks ++ signs_of_event e) ≡ open_behind m.in_sysex e
    = is_open-append marks (signs_of_event e)
    ∙ (ap (λ (o : Bool). open_from o (signs_of_event e)) (sym open_now)
    ∙ open_from-event m.in_sysex e suits) in
    is ∙ (ap (mapping m.rules) (sym more)
    ∙ ap (λ (rules : List Rule). mapping rules (is_open (marks ++ signs_of_event e)))
    (sym (ap (λ (z : Mapping). z.rules) is)))

-- an event suits, and so does what the rules leave of it

may-suit : (m : Mapping) (line : LineTape) (e : Ev) (told : List Put) → MapsBehind m (signs_in told) →
    LineStands line (mapped_puts m.rules told) → suited (signs_in told ++ signs_of_event e) ≡ true → MaySuit m line e
may-suit m line e told maps lines suits = record {
  event =
      subst (λ (o : Bool). suits_event o e ≡ true) (sym (ap (λ (z : Mapping). z.in_sysex) maps))
      (apart (signs_in told) e suits);
  left = λ x is.
      let before = mapped_marks m.rules (signs_in told) in
      subst (λ (o : Bool). suits_event o x ≡ true)
      (sym ((lines.writes).open_now ∙ ap is_open (mapped-signs m.rules told)))
      (apart before x
      (ap (λ ms. suited (before ++ ms)) is
      ∙ (ap suited (sym (flat_map-append (mapped_sign m.rules) (signs_in told) (signs_of_event e)))
      ∙ mapped-suits m.rules (signs_in told ++ signs_of_event e) suits)));
}

pub event-suits : (f : Filtering) (m : Mapping) (line : LineTape) (e : Ev) → m.rules ≡ filtering_rules f →
    Suiting (before_of f) (MapsBehind m) line (signs_of_event e) → MaySuit m line e
event-suits f m line e same s =
    may-suit m line e s.told s.kept
    (subst (λ (rules : List Rule). LineStands line (mapped_puts rules s.told)) (sym same) s.lines) s.suits

pub end-suits : (f : Filtering) (bytes : List ℕ) (e : Ev) → FilterHasTold f bytes →
    puts_at (track_moment f.track) (signs_of_event e) ≡ track_end (track_spec f.track) (track_of f.track) bytes →
    MaySuit f.mapper f.line e
end-suits f bytes e h is_end =
    let s = track_spec f.track in
    let so_far = track_marks_so_far s 0 bytes in
    may-suit f.mapper f.line e so_far h.kept h.written
    (ap suited (sym (signs_in-append so_far (puts_at (track_moment f.track) (signs_of_event e))
    ∙ ap (λ ms. signs_in so_far ++ ms) (signs_in-at (track_moment f.track) (signs_of_event e))))
    ∙ (ap (λ ps. suited (signs_in (so_far ++ ps))) (is_end ∙ ap (λ t. track_end s t bytes) h.of_track)
    ∙ all-suit s 0 bytes))

-- the end of the recording

end-is : (f : Filtering) (e : Ev) →
    ((bytes : List ℕ) → TrackTold f.track bytes →
    puts_at (track_moment f.track) (signs_of_event e) ≡ track_end (track_spec f.track) (track_of f.track) bytes) →
    (bytes : List ℕ) → FilterHasTold f bytes →
    puts_at (track_moment f.track) (mapped_marks (filtering_rules f) (signs_of_event e)) ≡
    mapped_puts (filtering_rules f) (track_end (track_spec f.track) 0 bytes)
end-is f e is_end bytes h =
    sym (mapped-at (filtering_rules f) (track_moment f.track) (signs_of_event e))
    ∙ ap (mapped_puts (filtering_rules f))
    (is_end bytes h.told ∙ ap (λ t. track_end (track_spec f.track) t bytes) h.of_track)

pub end-heard : (f now : Filtering) (e : Ev) (held kept : List ℕ) (took : List ℕ → Type 0) →
    LineWrote f.line now.line (puts_at (track_moment f.track) (mapped_marks (filtering_rules f) (signs_of_event e))) held
    kept took →
    ((bytes : List ℕ) → TrackTold f.track bytes →
    puts_at (track_moment f.track) (signs_of_event e) ≡ track_end (track_spec f.track) (track_of f.track) bytes) →
    FilterEndHeard f now held kept took
end-heard f now e held kept took wrote is_end = record {
  more = puts_at (track_moment f.track) (mapped_marks (filtering_rules f) (signs_of_event e));
  wrote = wrote;
  is_end = end-is f e is_end;
}

pub end-halted : (f : Filtering) (e : Ev) (held : List ℕ) (took : List ℕ → Type 0) →
    LineHalted f.line (puts_at (track_moment f.track) (mapped_marks (filtering_rules f) (signs_of_event e))) held took →
    ((bytes : List ℕ) → TrackTold f.track bytes →
    puts_at (track_moment f.track) (signs_of_event e) ≡ track_end (track_spec f.track) (track_of f.track) bytes) →
    FilterEndHalted f held took
end-halted f e held took halted is_end = record {
  more = puts_at (track_moment f.track) (mapped_marks (filtering_rules f) (signs_of_event e));
  halted = halted;
  is_end = end-is f e is_end;
}

pub end-none : (f now : Filtering) (held : List ℕ) (took : List ℕ → Type 0) → took [] → now.line ≡ f.line →
    ((bytes : List ℕ) → TrackTold f.track bytes → [] ≡ track_end (track_spec f.track) (track_of f.track) bytes) →
    FilterEndHeard f now held held took
end-none f now held took none line is_end = record {
  more = [];
  wrote =
      subst (λ (z : LineTape). LineWrote f.line z [] held held took) (sym line) (wrote-none f.line held took none);
  is_end = λ bytes h.
      ap (mapped_puts (filtering_rules f))
      (is_end bytes h.told ∙ ap (λ t. track_end (track_spec f.track) t bytes) h.of_track);
}

made-all : (f : Filtering) (bytes : List ℕ) (more : List Put) →
    more ≡ mapped_puts (filtering_rules f) (track_end (filtering_spec f) 0 bytes) →
    filtered_tape (filtering_rules f) (filtering_spec f) bytes ≡
    line_tape (mapped_puts (filtering_rules f) (track_marks_so_far (filtering_spec f) 0 bytes) ++ more)
made-all f bytes more is =
    let so_far = track_marks_so_far (filtering_spec f) 0 bytes in
    ap line_tape ((before_of f).joins so_far (track_end (filtering_spec f) 0 bytes)
    ∙ ap (λ ps. mapped_puts (filtering_rules f) so_far ++ ps) (sym is))

pub ends-as : (f now : Filtering) (bytes held kept : List ℕ) (took : List ℕ → Type 0) → FilterHasTold f bytes →
    (e : FilterEndHeard f now held kept took) →
    filtered_tape (filtering_rules f) (filtering_spec f) bytes ≡
    line_tape (mapped_puts (filtering_rules f) (track_marks_so_far (filtering_spec f) 0 bytes) ++ e.more)
ends-as f now bytes held kept took h e = made-all f bytes e.more (e.is_end bytes h)

pub end-front : (f : Filtering) (bytes held : List ℕ) (took : List ℕ → Type 0) → FilterHasTold f bytes →
    (e : FilterEndHalted f held took) →
    (others : List Put) × (filtered_tape (filtering_rules f) (filtering_spec f) bytes ≡
    line_tape ((mapped_puts (filtering_rules f) (track_marks_so_far (filtering_spec f) 0 bytes) ++ e.more) ++ others))
end-front f bytes held took h e =
    let all = mapped_puts (filtering_rules f) (track_marks_so_far (filtering_spec f) 0 bytes) ++ e.more in
    ([], made-all f bytes e.more (e.is_end bytes h) ∙ ap line_tape (sym (append-nil all)))

pub has-told : (f : Filtering) (line : LineTape) → line.writer ≡ f.line.writer → line.gather ≡ f.line.gather →
    (bytes : List ℕ) → FilteringStands f bytes →
    FilterHasTold (record { track = f.track; mapper = f.mapper; line = line }) bytes
has-told f line writer gather bytes st = record {
  told = (st.so_far).told;
  of_track = (st.so_far).of_track;
  kept = (st.so_far).kept;
  written =
      begun-stands f.line line (mapped_puts (filtering_rules f) (track_marks_so_far (filtering_spec f) 0 bytes)) writer
      gather (st.so_far).written;
}

-- what a step wrote is what is made of the marks

made-at : (rules was : List Rule) (m : ℕ) (signs : List Sign) → was ≡ rules →
    puts_at m (mapped_marks was signs) ≡ mapped_puts rules (puts_at m signs)
made-at rules was m signs same =
    ap (λ (z : List Rule). puts_at m (mapped_marks z signs)) same ∙ sym (mapped-at rules m signs)

pub wrote-made : (rules was : List Rule) (a b : LineTape) (m : ℕ) (signs : List Sign) (held kept : List ℕ)
    (took : List ℕ → Type 0) → was ≡ rules →
    LineWrote a b (puts_at m (mapped_marks was signs)) held kept took →
    LineWrote a b (mapped_puts rules (puts_at m signs)) held kept took
wrote-made rules was a b m signs held kept took same w =
    subst (λ (ps : List Put). LineWrote a b ps held kept took) (made-at rules was m signs same) w

pub halted-made : (rules was : List Rule) (a : LineTape) (m : ℕ) (signs : List Sign) (held : List ℕ)
    (took : List ℕ → Type 0) → was ≡ rules → LineHalted a (puts_at m (mapped_marks was signs)) held took →
    LineHalted a (mapped_puts rules (puts_at m signs)) held took
halted-made rules was a m signs held took same w =
    subst (λ (ps : List Put). LineHalted a ps held took) (made-at rules was m signs same) w

-- a piece went through, by the same rules
pub fed-made : (f now : Filtering) (piece : List ℕ) (fault : Option TapeFault) (took : List ℕ → Type 0) →
    filtering_rules now ≡ filtering_rules f →
    Rewrote (Stood (before_of f)) (Rewriting (mapped_puts (filtering_rules f)) (MapsBehind now.mapper) now.track now.line)
    (live_of (before_of f)) piece fault took →
    Rewrote (FilteringStands f) (FilteringStands now) (filtered_so_far (filtering_rules f) (filtering_spec f)) piece fault
    took
fed-made f now piece fault took same r =
    subst (λ (rules : List Rule). Rewrote (FilteringStands f)
    (Rewriting (mapped_puts rules) (MapsBehind now.mapper) now.track now.line)
    (filtered_so_far (filtering_rules f) (filtering_spec f)) piece fault took) (sym same) r
