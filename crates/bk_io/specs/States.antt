-- What sources and sinks in memory hold, and what a call leaves.
use Rattle.std.specs.Prelude.{ℕ, List, [], Option, Some, None, ◌++◌, ◌-◌, ◌≤◌, min, take, drop}
use Rattle.bk_io.specs.Faults.{raised}

-- a source: the bytes that are left, the most that one read moves, the numbers of the reads that fail,
-- and how many reads and faults there were
pub record SourceState : Type 0 where
  pub left : List ℕ
  pub step : Option ℕ
  pub fails : List ℕ
  pub calls : ℕ
  pub faults : ℕ

-- a sink: the bytes that were written, the room that is left, the most that one write moves, the numbers
-- of the writes that fail, and how many writes and faults there were
pub record SinkState : Type 0 where
  pub written : List ℕ
  pub room : ℕ
  pub step : Option ℕ
  pub fails : List ℕ
  pub calls : ℕ
  pub faults : ℕ

-- a source that was not read yet
abbrev pub new_source : List ℕ → Option ℕ → List ℕ → SourceState
new_source bytes step fails = record { left = bytes; step = step; fails = fails; calls = 0; faults = 0 }

-- a sink that was not written yet
abbrev pub new_sink : ℕ → Option ℕ → List ℕ → SinkState
new_sink room step fails = record { written = []; room = room; step = step; fails = fails; calls = 0; faults = 0 }

-- n, but no more than a step, where there is one
abbrev pub within_step : Option ℕ → ℕ → ℕ
within_step None n = n
within_step (Some step) n = min n step

-- a step moves something
abbrev pub IsStep : Option ℕ → Type 0
IsStep None = Unit {0}
IsStep (Some step) = 1 ≤ step

-- the source after a read of n bytes
abbrev pub after_read : SourceState → ℕ → SourceState
after_read s n = record s { left = drop n s.left; calls = raised s.calls }

-- the source after a read that failed
abbrev pub after_failed_read : SourceState → SourceState
after_failed_read s = record s { calls = raised s.calls; faults = raised s.faults }

-- the sink after a write of the first n bytes of a piece
abbrev pub after_write : SinkState → ℕ → List ℕ → SinkState
after_write s n piece = record s { written = s.written ++ take n piece; room = s.room - n; calls = raised s.calls }

-- the sink after a write that failed
abbrev pub after_failed_write : SinkState → SinkState
after_failed_write s = record s { calls = raised s.calls; faults = raised s.faults }
