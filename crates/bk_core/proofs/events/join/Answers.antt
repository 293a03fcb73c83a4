use Rattle.std.proofs.Common.{rules, vec_len, ◌≡◌, ◌≢◌, ℕ, zero, suc, List, [], ◌∷◌, set, refl, sym, ap, ◌∙◌, get_or-set_other}
use Rattle.std.proofs.lemmas.List.{set-get_or, get_or_read_under}
use Rattle.std.proofs.lemmas.Result.{on_ok_weaker, on_err_weaker}
use Rattle.bk_core.specs.Rule.{Sight, nobody, worker}
use Rattle.bk_core.specs.Events.{both}
use Rattle.bk_core.proofs.events.join.Goals as goal

module _ {A : Type 0} where
  set_again : (l : List A) (i : ℕ) (a b : A) → set (set l i a) i b ≡ set l i b
  set_again [] i a b = refl
  set_again (x ∷ xs) zero a b = refl
  set_again (x ∷ xs) (suc i) a b = ap (λ (l : List A). x ∷ l) (set_again xs i a b)

  set_three : (l : List A) (i j : ℕ) (a b c : A) → set (set (set l i a) j b) i c ≡ set (set l j b) i c
  set_three [] i j a b c = refl
  set_three (x ∷ xs) zero zero a b c = refl
  set_three (x ∷ xs) zero (suc j) a b c = refl
  set_three (x ∷ xs) (suc i) zero a b c = ap (λ (l : List A). b ∷ l) (set_again xs i a c)
  set_three (x ∷ xs) (suc i) (suc j) a b c = ap (λ (l : List A). x ∷ l) (set_three xs i j a b c)

module _ (ws : List Sight) (from to : ℕ) (nothing s o : Sight) where
  abbrev Left : List Sight
  Left = set (set (set ws from nothing) to s) from o

  gained : from ≢ to → (s ≡ both (worker (set ws from nothing) to) (worker ws from)) × (o ≡ nobody) → Left ≡ set (set ws to (both (worker ws to) (worker ws from))) from nobody
  gained apart is = set_three ws from to nothing s o ∙ ap (λ (p : Sight × Sight). set (set ws to p.0) from p.1) (λ i. ((is.0 ∙ ap (λ (u : Sight). both u (worker ws from)) (get_or-set_other ws from to nothing nobody (λ e. apart (sym e)))) i, is.1 i))

  unchanged : (s ≡ worker (set ws from nothing) to) × (o ≡ worker ws from) → Left ≡ ws
  unchanged is = ap (λ (p : Sight × Sight). set (set (set ws from nothing) to p.0) from p.1) (λ i. (is.0 i, is.1 i))
      ∙ ap (λ (l : List Sight). set l from (worker ws from)) (set-get_or (set ws from nothing) to nobody) ∙ set_again ws from nothing (worker ws from) ∙ set-get_or ws from nobody

module _ (c : goal.After-drop-index_mut-2) where
  abbrev Ws : List Sight
  Ws = c.args.workers.now.items

  one : c.replace-other.result ≡ worker Ws c.args.from
  one = c.replace-other.ensures.value ∙ get_or_read_under Ws c.args.from (vec_len c.args.workers.now) c.index_mut.result.now nobody c.index_mut.ensures.value c.requires.from_is (search rules)

  two : c.index_mut-2.result.now ≡ worker (set Ws c.args.from c.replace-other.new.dest) c.args.to
  two = get_or_read_under (set Ws c.args.from c.replace-other.new.dest) c.args.to (vec_len c.args.workers.now) c.index_mut-2.result.now nobody c.index_mut-2.ensures.value c.requires.to_is (search rules)

pub returns-clause-ok : goal.returns-clause-ok
returns-clause-ok c = on_ok_weaker c.gain-done.result
    (λ is. gained (Ws c) c.args.from c.args.to c.replace-other.new.dest c.gain-done.new.self c.gain-done.new.other c.requires.apart
    (is.0 ∙ ap (λ (u : Sight). both u c.replace-other.result) (two c) ∙ ap (both (worker (set (Ws c) c.args.from c.replace-other.new.dest) c.args.to)) (one c), is.1)) c.gain-done.ensures.ok

pub returns-clause-err : goal.returns-clause-err
returns-clause-err c = on_err_weaker c.gain-done.result
    (λ is. unchanged (Ws c) c.args.from c.args.to c.replace-other.new.dest c.gain-done.new.self c.gain-done.new.other (is.0 ∙ two c, is.1 ∙ one c)) c.gain-done.ensures.err
