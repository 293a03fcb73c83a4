-- The frame of a function, and how much of the stack a call of it needs.
use Rattle.std.specs.Prelude.{ℕ, ◌+◌, ◌*◌}
use Rattle.bk_ops.specs.Types.{word_size}
use Rattle.bk_ops.specs.declared.types.Target.{Target}
use Rattle.bk_func.specs.Records.{SigRecord}
use Rattle.bk_func.specs.Words.{count_words}
use Rattle.bk_func.specs.Numbers.{rounded}

-- the bytes of a frame: the words that the calls in it take and give, its slots, the swap word and the return address, up
-- to the next multiple of 8
abbrev pub frame_bytes : Target → ℕ → ℕ → ℕ
frame_bytes t out slots = rounded (word_size t * (out + slots + 2))

-- what a call needs: the frame, and above it the words of the function's own arguments and results
abbrev pub need : Target → ℕ → ℕ → SigRecord → ℕ
need t out slots g = frame_bytes t out slots + word_size t * (count_words t g.args + count_words t g.results)
