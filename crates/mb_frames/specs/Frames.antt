-- Frames, the project's own file form for recordings of packets: a list of bytes is frames, each a length of two bytes,
-- most significant first, and a content of that many bytes; a rest that is no whole frame is the last, unfinished one.
--
--   FramePart                a frame begins, a byte of its content, it ends
--   frame content            the bytes of a frame
--   frame_parts content      the parts of a frame
--   Framed                   a frame as it stands in a list: its length, and what stands there of its content
--   framed bytes             a list cut into frames
--   parts bytes              the parts of a list of bytes
--   IsUnfinished rest        the front of a frame, and no whole one
--   Cut bytes                the frames of a list, and its rest
--   AreBytes bytes           each is below 256
use Rattle.std.specs.Prelude.{◌≡◌, ℕ, zero, suc, ◌+◌, ◌*◌, ◌/◌, ◌%◌, ◌<◌, ◌==◌, if◌then◌else◌, List, [], ◌∷◌, ◌++◌}
use Rattle.std.specs.Prelude.{length, take, drop, map, flat_map}

pub data FramePart : Type 0 where
  FrameBegin : (length : ℕ) → FramePart
  FrameByte : (byte : ℕ) → FramePart
  FrameEnd : FramePart

abbrev pub frame : (content : List ℕ) → List ℕ
frame content = (length content / 256) ∷ (length content % 256) ∷ content

abbrev pub frame_parts : (content : List ℕ) → List FramePart
frame_parts content = FrameBegin (length content) ∷ map FrameByte content ++ FrameEnd ∷ []

pub record Framed : Type 0 where
  pub len : ℕ
  pub content : List ℕ

-- A length that lacks its second byte is cut off. There are no more frames than bytes.
abbrev pub framed_from : (most : ℕ) → List ℕ → List Framed
framed_from zero bytes = []
framed_from (suc most) [] = []
framed_from (suc most) (high ∷ []) = []
framed_from (suc most) (high ∷ low ∷ bytes) =
    record { len = 256 * high + low; content = take (256 * high + low) bytes }
    ∷ framed_from most (drop (256 * high + low) bytes)

abbrev pub framed : List ℕ → List Framed
framed bytes = framed_from (length bytes) bytes

-- a frame ends where its content is all there
abbrev pub framed_parts : Framed → List FramePart
framed_parts f = FrameBegin f.len ∷ map FrameByte f.content ++ (if length f.content == f.len then FrameEnd ∷ [] else [])

abbrev pub parts : List ℕ → List FramePart
parts bytes = flat_map framed_parts (framed bytes)

-- the parts of the last, unfinished frame
abbrev pub unfinished_parts : List ℕ → List FramePart
unfinished_parts [] = []
unfinished_parts (high ∷ []) = []
unfinished_parts (high ∷ low ∷ content) = FrameBegin (256 * high + low) ∷ map FrameByte content

abbrev pub IsUnfinished : List ℕ → Type 0
IsUnfinished [] = Unit {0}
IsUnfinished (high ∷ []) = Unit {0}
IsUnfinished (high ∷ low ∷ content) = length content < 256 * high + low

pub record Cut (bytes : List ℕ) : Type 0 where
  pub contents : List (List ℕ)
  pub rest : List ℕ
  pub joined : bytes ≡ flat_map frame contents ++ rest
  pub unfinished : IsUnfinished rest

abbrev pub AreBytes : List ℕ → Type 0
AreBytes [] = Unit {0}
AreBytes (b ∷ bs) = (b < 256) × AreBytes bs
