use Rattle.std.proofs.Common.{◌≡◌, ℕ, List, ap, ◌∙◌, sym, subst, length, map, vec_len}
use Rattle.std.specs.Prelude.{IfErr, IfOk}
use Rattle.std.specs.declared.alloc.Global.{Global}
use Rattle.std.specs.declared.vec.Vec.{Vec}
use Rattle.std.specs.List.{filter}
use Rattle.std.proofs.lemmas.Bool.{eq-eqb, eqb-true, false≢true}
use Rattle.std.proofs.lemmas.List.{nil_from_length}
use Rattle.bk_core.specs.Events.{words_of}
use Rattle.bk_piece.specs.Pieces.{PieceRecord}
use Rattle.bk_work.specs.Package.{IsLinkError, IsObjectOf}
use Rattle.bk_work.specs.Placed.{is_open}
use Rattle.bk_work.specs.Rules.{rules_of}
use Rattle.bk_work.proofs.Linking.{compiled, link_fails}
use Rattle.bk_work.proofs.Moving.{IsSerial}
use Rattle.bk_work.proofs.Results.{lowered_left, made_refused, made_serial}
use Rattle.bk_work.proofs.package.compile_package.Goals as goal

pub emit_all-requires-clause-lowered : goal.emit_all-requires-clause-lowered
emit_all-requires-clause-lowered g c κs within =
    let rules = rules_of c.args.target c.args.extra.now in let firsts = c.in_ok-firsts.firsts in (
      rules,
      lowered_left c.args.pkg.now c.args.target rules c.in_ok-order.order.items c.deref-3.result.now firsts.lowered.items firsts.causes.items c.in_ok-order.ensures
          (c.deref-3.ensures.value ∙ c.in_ok-left.ensures ∙ ap (filter (is_open firsts.causes.items)) c.deref-2.ensures.value) c.in_ok-firsts.ensures,
    )

pub returns-then-is_empty : goal.returns-then-is_empty
returns-then-is_empty g c =
    let pkg = c.args.pkg.now in let t = c.args.target in let extra = c.args.extra.now in let rules = rules_of t extra in
    let firsts = c.in_ok-firsts.firsts in let pieces = c.in_ok-ends.ends.pieces.items in let refusals = c.in_ok-ends.ends.refusals in let words = words_of c.in_ok-ends.words in
    let none = nil_from_length refusals.items (sym refusals.ok.0 ∙ eqb-true (vec_len refusals) 0 (sym c.is_empty.ensures ∙ c.if-is_empty.true)) in
    let serial : IsSerial pkg t rules pieces words = made_serial pkg t rules c.in_ok-order.order.items c.deref-3.result.now firsts.lowered.items firsts.causes.items pieces refusals.items words
    c.in_ok-order.ensures (c.deref-3.ensures.value ∙ c.in_ok-left.ensures ∙ ap (filter (is_open firsts.causes.items)) c.deref-2.ensures.value) c.in_ok-firsts.ensures c.in_ok-ends.ensures none in
    let row : Vec ℕ Global → List ℕ = λ w. w.items in
    let r = c.linked.result in let given = c.deref-then-is_empty in let cells = c.deref-then-is_empty-2 in record {
      made = compiled (λ bytes. bytes.items) r pkg t extra pieces words serial
          (subst (λ (ws : List (Vec ℕ Global)). IfOk r (λ bytes. IsObjectOf pkg t pieces (map row ws) bytes.items)) cells.ensures.value
          (subst (λ (ps : List PieceRecord). IfOk r (λ bytes. IsObjectOf pkg t ps (map row cells.result.now) bytes.items)) given.ensures.value c.linked.ensures.made));
      cause = link_fails r pkg t extra pieces words serial
          (subst (λ (ws : List (Vec ℕ Global)). IfErr r (IsLinkError pieces (map row ws))) cells.ensures.value
          (subst (λ (ps : List PieceRecord). IfErr r (IsLinkError ps (map row cells.result.now))) given.ensures.value c.linked.ensures.cause));
    }

pub returns-clause-cause : goal.returns-clause-cause
returns-clause-cause g c =
    let firsts = c.in_ok-firsts.firsts in let ends = c.in_ok-ends.ends in let words = words_of c.in_ok-ends.words in
    made_refused c.args.pkg.now c.args.target c.args.extra.now c.in_ok-order.order.items c.deref-3.result.now firsts.lowered.items firsts.causes.items ends.pieces.items ends.refusals.items words
    c.in_ok-order.ensures (c.deref-3.ensures.value ∙ c.in_ok-left.ensures ∙ ap (filter (is_open firsts.causes.items)) c.deref-2.ensures.value) c.in_ok-firsts.ensures c.in_ok-ends.ensures
    (λ e. false≢true (sym c.if-is_empty.false ∙ (c.is_empty.ensures ∙ eq-eqb (vec_len ends.refusals) 0 (ends.refusals.ok.0 ∙ ap length e))))
