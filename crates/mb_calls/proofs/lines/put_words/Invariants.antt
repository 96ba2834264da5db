use Rattle.std.proofs.Common.{length}
use Rattle.mb_calls.proofs.lines.put_words.Given as goal

abbrev pub decreases-lines : goal.decreases-lines
decreases-lines l = length l.rest

abbrev pub decreases-words : goal.decreases-words
decreases-words l = length l.left
