-- A file that is played piece by piece.
use Rattle.std.proofs.Common.{◌≡◌, ℕ, ◌+◌, ◌<◌, ◌≤◌, Bool, true, false, if◌then◌else◌, List, [], ◌∷◌, ◌++◌, length}
use Rattle.std.proofs.Common.{None, refl, sym, ◌∙◌, ap, arith, append_assoc}
use Rattle.mb_frames.specs.Gathered.{TimedByte}
use Rattle.mb_frames.specs.Gathering.{Piece, after_magic, ended_by, gathering, no_piece, with_byte, written_piece}
use Rattle.mb_frames.specs.Tapes.{magic}
use Rattle.mb_frames.proofs.GatherLemmas.{Gathers-nothing}
use Rattle.mb_smf.specs.declared.file_state.FileState.{FileState}
use Rattle.mb_smf.specs.Smf.{file_behind, file_fault, file_step, fresh_file, given_now, is_ended, is_faulted, smf}
use Rattle.mb_smf.specs.Smf.{smf_ended, smf_from}
use Rattle.mb_smf.proofs.TakesLemmas.{file-append}
use Rattle.mb_tapes.specs.Played.{ended_records, piece_behind, played, played_so_far}
use Rattle.mb_tapes.specs.Playing.{PlayingStands, is_begun, playing_behind, playing_end, playing_fault}
use Rattle.mb_tapes.specs.Playing.{playing_given}
use Rattle.mb_tapes.specs.declared.playing.Playing.{Playing}
use Rattle.mb_tapes.proofs.PlayingLemmas.{ended-append, piece-append}

given-append : (s : FileState) (xs ys : List ℕ) →
    (smf_from s (xs ++ ys)).given ≡ (smf_from s xs).given ++ (smf_from (file_behind s xs) ys).given
given-append s [] ys = refl
given-append s (b ∷ xs) ys =
    let now : FileState = (file_step s b).now in
    ap (λ z. given_now (file_step s b) ++ z) (given-append now xs ys)
    ∙ sym (append_assoc (given_now (file_step s b)) (smf_from now xs).given (smf_from (file_behind now xs) ys).given)

fault-behind : (s : FileState) (bytes : List ℕ) → (smf_from s bytes).fault ≡ file_fault (file_behind s bytes)
fault-behind s [] = refl
fault-behind s (b ∷ bytes) = fault-behind (file_step s b).now bytes

one-byte : (q : Bool) (n : ℕ) → (if q then n else n + 1) ≤ n + 1
one-byte true n = omega arith
one-byte false n = omega arith

offset-behind : (s : FileState) (bytes : List ℕ) → (file_behind s bytes).offset ≤ s.offset + length bytes
offset-behind s [] = omega arith
offset-behind s (b ∷ bytes) =
    omega (
      arith,
      offset-behind (file_step s b).now bytes,
      one-byte (is_faulted (file_step s b).now.place) s.offset,
    )

-- what a gatherer is given is what it ends, and the record under way
gathering-is : (p : Piece) (ts : List TimedByte) → gathering p ts
    ≡ ended_records p ts ++ written_piece (piece_behind p ts).moment (piece_behind p ts).bytes
gathering-is p [] = refl
gathering-is p (t ∷ ts) =
    let behind : Piece = piece_behind (with_byte p t) ts in
    ap (λ z. ended_by p t ++ z) (gathering-is (with_byte p t) ts)
    ∙ sym (append_assoc (ended_by p t) (ended_records (with_byte p t) ts) (written_piece behind.moment behind.bytes))

-- what stands for bytes
abbrev played_at : List ℕ → Playing
played_at bytes = record {
  file = record { file = file_behind fresh_file bytes; owed = None };
  gather = piece_behind no_piece (smf bytes).given;
  begun = is_begun bytes;
}

begun-more : (bytes piece : List ℕ) → 0 < length piece → true ≡ is_begun (bytes ++ piece)
begun-more (b ∷ bytes) piece some = refl
begun-more [] (b ∷ piece) some = refl
begun-more [] [] some = absurd (omega (arith, some))

behind-is : (bytes piece : List ℕ) → 0 < length piece → playing_behind (played_at bytes) piece ≡ played_at
    (bytes ++ piece)
behind-is bytes piece some =
    let g : List TimedByte = (smf bytes).given in
    let h : List TimedByte = (smf_from (file_behind fresh_file bytes) piece).given in
    let gather : piece_behind (piece_behind no_piece g) h ≡ piece_behind no_piece (smf (bytes ++ piece)).given =
    sym (ap (piece_behind no_piece) (given-append fresh_file bytes piece) ∙ piece-append no_piece g h) in
    ap (λ s. record {
      file = record { file = s; owed = None };
      gather = piece_behind (piece_behind no_piece g) h;
      begun =
          true;
    })
    (sym (file-append fresh_file bytes piece))
    ∙ (ap (λ p. record {
      file = record { file = file_behind fresh_file (bytes ++ piece); owed = None };
      gather = p;
      begun = true;
    }) gather
    ∙ ap (λ q. record {
      file = record { file = file_behind fresh_file (bytes ++ piece); owed = None };
      gather = piece_behind no_piece (smf (bytes ++ piece)).given;
      begun = q;
    }) (begun-more bytes piece some))

pub stands : (p : Playing) (bytes piece : List ℕ) → PlayingStands p bytes → 0 < length piece →
    PlayingStands (playing_behind p piece) (bytes ++ piece)
stands p bytes piece st some = ap (λ z. playing_behind z piece) st ∙ behind-is bytes piece some

so-far : (bytes piece : List ℕ) → 0 < length piece →
    played_so_far (bytes ++ piece) ≡ played_so_far bytes ++ playing_given (played_at bytes) piece
so-far [] [] some = absurd (omega (arith, some))
so-far [] (b ∷ piece) some = refl
so-far (b ∷ bytes) piece some =
    let g : List TimedByte = (smf (b ∷ bytes)).given in
    let h : List TimedByte = (smf_from (file_behind fresh_file (b ∷ bytes)) piece).given in
    ap (λ ts. after_magic (ended_records no_piece ts)) (given-append fresh_file (b ∷ bytes) piece)
    ∙ (ap after_magic (ended-append no_piece g h)
    ∙ sym (append_assoc (magic true) (ended_records no_piece g) (ended_records (piece_behind no_piece g) h)))

pub given : (p : Playing) (bytes piece : List ℕ) → PlayingStands p bytes → 0 < length piece →
    played_so_far (bytes ++ piece) ≡ played_so_far bytes ++ playing_given p piece
given p bytes piece st some =
    so-far bytes piece some ∙ ap (λ z. played_so_far bytes ++ playing_given z piece) (sym st)

all-played : (bytes : List ℕ) → played bytes ≡ played_so_far bytes ++ playing_end (played_at bytes)
all-played [] = refl
all-played (b ∷ bytes) =
    let g : List TimedByte = (smf (b ∷ bytes)).given in
    let behind : Piece = piece_behind no_piece g in
    Gathers-nothing.rest g
    ∙ (ap after_magic (gathering-is no_piece g)
    ∙ sym (append_assoc (magic true) (ended_records no_piece g) (written_piece behind.moment behind.bytes)))

pub whole : (p : Playing) (bytes : List ℕ) → PlayingStands p bytes → played bytes ≡ played_so_far bytes ++ playing_end p
whole p bytes st = all-played bytes ∙ ap (λ z. played_so_far bytes ++ playing_end z) (sym st)

pub fault : (p : Playing) (bytes : List ℕ) → PlayingStands p bytes → playing_fault p ≡ (smf bytes).fault
fault p bytes st = ap playing_fault st ∙ sym (fault-behind fresh_file bytes)

pub ended : (p : Playing) (bytes : List ℕ) → PlayingStands p bytes → is_ended p.file.file.place ≡ smf_ended bytes
ended p bytes st = ap (λ (z : Playing). is_ended z.file.file.place) st

pub rests : (p : Playing) (bytes : List ℕ) → PlayingStands p bytes → p.file.owed ≡ None
rests p bytes st = ap (λ (z : Playing). z.file.owed) st

pub offset : (p : Playing) (bytes : List ℕ) → PlayingStands p bytes → p.file.file.offset ≤ length bytes
offset p bytes st = omega (arith, ap (λ (z : Playing). z.file.file.offset) st, offset-behind fresh_file bytes)
