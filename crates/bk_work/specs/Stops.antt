-- Why the work on a function ends.
use Rattle.bk_calls.specs.declared.frame.FrameError.{FrameError}
use Rattle.bk_calls.specs.declared.frame.FrameError.TheVariants as frame
use Rattle.bk_func.specs.declared.RewriteError.{RewriteError}
use Rattle.bk_func.specs.declared.RewriteError.TheVariants as rewrite
use Rattle.bk_work.specs.declared.refusals.Cause.{Cause}
use Rattle.bk_work.specs.declared.refusals.Cause.TheVariants.{Passes, Grown, Frame}
use Rattle.bk_work.specs.declared.refusals.Stop.{Stop}
use Rattle.bk_work.specs.declared.refusals.Stop.TheVariants.{Refused, Memory}

-- what is said of the cause, where there is one
abbrev pub IfRefused : Stop → (Cause → Type 0) → Type 0
IfRefused (Refused cause) P = P cause
IfRefused Memory P = Unit {0}

-- what a refused rewriting is to the function, and a refused frame
abbrev pub stop_of : RewriteError → Stop
stop_of (rewrite.Passes n) = Refused (Passes n)
stop_of (rewrite.Grown values) = Refused (Grown values)
stop_of rewrite.Memory = Memory

abbrev pub frame_stop : FrameError → Stop
frame_stop (frame.Frame bytes) = Refused (Frame bytes)
