-- The parts of a list of frames byte by byte, by counting what of a content is to come. This is no second definition: a
-- law says that both are equal.
--
--   counted_parts bytes      the parts of a list of bytes
--   rest_parts left bytes    the same, so many bytes of a content being to come
use Rattle.std.specs.Prelude.{ℕ, zero, suc, ◌+◌, ◌*◌, List, [], ◌∷◌}
use Rattle.mb_frames.specs.Frames.{FramePart, FrameBegin, FrameByte, FrameEnd}

-- Where no byte is to come, the frame ends, and what follows is a length.
abbrev pub rest_parts : (left : ℕ) → List ℕ → List FramePart
rest_parts zero [] = FrameEnd ∷ []
rest_parts zero (high ∷ []) = FrameEnd ∷ []
rest_parts zero (high ∷ low ∷ bytes) = FrameEnd ∷ FrameBegin (256 * high + low) ∷ rest_parts (256 * high + low) bytes
rest_parts (suc left) [] = []
rest_parts (suc left) (byte ∷ bytes) = FrameByte byte ∷ rest_parts left bytes

abbrev pub counted_parts : List ℕ → List FramePart
counted_parts [] = []
counted_parts (high ∷ []) = []
counted_parts (high ∷ low ∷ bytes) = FrameBegin (256 * high + low) ∷ rest_parts (256 * high + low) bytes
