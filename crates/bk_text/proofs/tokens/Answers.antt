use Rattle.bk_text.proofs.Found.{begun_next, found_more, run_made}
use Rattle.bk_text.proofs.Words.{words_more, words_token}
use Rattle.bk_text.proofs.tokens.Goals as goal

pub loop-start-preserved : goal.loop-start-preserved
loop-start-preserved c =
    let line = c.args.line.now in
    let start = c.loop-start.start in
    let end = c.run_end-end.result in
    let next = c.skip_blanks-start-in-loop-start.result in
    let old = c.loop-start.invariant in
    let run = c.run_end-end.ensures in
    let skip = c.skip_blanks-start-in-loop-start.ensures in
    let is_run = run_made line start end c.loop-start-test.true old.begun old.stops run.from run.within run.solid run.stops in
    let pushed = c.in_ok-push.ensures.items in
    record {
      within = skip.within;
      begun = begun_next line end next skip.from run.stops skip.blanks skip.stops;
      stops = skip.stops;
      found = rw pushed (found_more line start end next c.loop-start.tokens.items old.found is_run skip.from skip.blanks);
      words_so_far = rw pushed (words_more line start end next c.loop-start.tokens.items (words_token line start end is_run.some run.within run.solid run.stops) skip.same_words old.words_so_far);
    }
