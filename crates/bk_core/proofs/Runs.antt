-- Each event of the core keeps the rule, and so does a list of them.
use Rattle.std.proofs.Common.{◌≡◌, ◌≢◌, ℕ, zero, suc, ◌+◌, ◌<◌, ◌≤◌, List, [], ◌∷◌, map, length, set, get_or, refl, sym, ap, ◌∙◌, subst, arith, length-set, get_or-set_same, get_or-set_other}
use Rattle.std.specs.List.{Contains}
use Rattle.std.proofs.lemmas.List.{length-replicate}
use mathlib.Core.Logic.{dite}
use native.Mathlib.Decide.{ℕ_discrete}
use Rattle.bk_core.specs.declared.events.Event.{Event}
use Rattle.bk_core.specs.declared.events.Event.TheVariants.{Claim, Look, Take, Split, Join}
use Rattle.bk_core.specs.Rule.{worker, keys_of, cells_of}
use Rattle.bk_core.specs.Events.{zeros, CoreState, word_at, with_word, taken, after, CanLook, HasWalked, CanHappen, IsAnnounced, MeetsRule, start, reach_from, CanRun}
use Rattle.bk_core.proofs.Keeps.{draws, looks, takes_any, splits, joins, rule_starts}

in_area : (areas : List (List ℕ)) (a c : ℕ) → c < length (get_or areas a []) → a < length areas
in_area [] a c h = absurd (omega arith)
in_area (x ∷ xs) zero c h = omega arith
in_area (x ∷ xs) (suc a) c h = let r = in_area xs a c h in omega arith

pub word_here : (areas : List (List ℕ)) (a c k : ℕ) → c < length (get_or areas a []) → word_at (with_word areas a c k) a c ≡ k
word_here areas a c k h = ap (λ (l : List ℕ). get_or l c 0) (get_or-set_same areas a (set (get_or areas a []) c k) [] (in_area areas a c h)) ∙ get_or-set_same (get_or areas a []) c k 0 h

pub word_there : (areas : List (List ℕ)) (a c k b d : ℕ) → c < length (get_or areas a []) → (b ≡ a → d ≢ c) → word_at (with_word areas a c k) b d ≡ word_at areas b d
word_there areas a c k b d h ne = dite (ℕ_discrete b a)
    (λ e. ap (λ (i : ℕ). word_at (with_word areas a c k) i d) e
    ∙ ap (λ (l : List ℕ). get_or l d 0) (get_or-set_same areas a (set (get_or areas a []) c k) [] (in_area areas a c h))
    ∙ get_or-set_other (get_or areas a []) c d k 0 (ne e) ∙ ap (λ (i : ℕ). word_at areas i d) (sym e))
    (λ apart. ap (λ (l : List ℕ). get_or l d 0) (get_or-set_other areas a b (set (get_or areas a []) c k) [] apart))

pub size_same : (areas : List (List ℕ)) (a c k b : ℕ) → c < length (get_or areas a []) → length (get_or (with_word areas a c k) b []) ≡ length (get_or areas b [])
size_same areas a c k b h = dite (ℕ_discrete b a)
    (λ e. ap (λ (i : ℕ). length (get_or (with_word areas a c k) i [])) e
    ∙ ap (λ (l : List ℕ). length l) (get_or-set_same areas a (set (get_or areas a []) c k) [] (in_area areas a c h))
    ∙ length-set (get_or areas a []) c k ∙ ap (λ (i : ℕ). length (get_or areas i [])) (sym e))
    (λ apart. ap (λ (l : List ℕ). length l) (get_or-set_other areas a b (set (get_or areas a []) c k) [] apart))

module _ (announced : List (List ℕ)) (parts : ℕ) (m : CoreState) (k : MeetsRule announced parts m) where
  keeps_look : (w a c : ℕ) → CanLook m w a c → MeetsRule announced parts (after m (Look w a c))
  keeps_look w a c can = record { rule = looks announced parts m.claims (word_at m.areas) m.workers k.rule w can.0.0 a c can.0.1 can.1 (let s = k.sizes a can.1 in let h = can.2 in omega arith); sizes = k.sizes }

  keeps_take : (w a c key : ℕ) → CanHappen m (Take w a c key) → Contains (keys_of announced a) key → MeetsRule announced parts (after m (Take w a c key))
  keeps_take w a c key can ann = let now = taken (word_at m.areas a c) key in let size = k.sizes a can.0.1 in record {
    rule = takes_any announced parts m.claims (word_at m.areas) m.workers k.rule w can.0.0.0 (word_at (with_word m.areas a c now)) a c key can.0.0.1 can.0.1 (let h = can.0.2 in omega arith) can.1 ann
        (subst (λ (n : ℕ). HasWalked (worker m.workers w).known n a c key) size can.2)
        (word_here m.areas a c now can.0.2) (λ b d _ _ ne. word_there m.areas a c now b d can.0.2 ne);
    sizes = λ b hb. size_same m.areas a c now b can.0.2 ∙ k.sizes b hb;
  }

  pub keeps_rule : (e : Event) → CanHappen m e → IsAnnounced announced e → MeetsRule announced parts (after m e)
  keeps_rule (Claim w) can ann = record { rule = draws announced parts m.claims (word_at m.areas) m.workers k.rule w can.0 can.1; sizes = k.sizes }
  keeps_rule (Look w a c) can ann = keeps_look w a c can
  keeps_rule (Take w a c key) can ann = keeps_take w a c key can ann
  keeps_rule (Split w) can ann = record { rule = splits announced parts m.claims (word_at m.areas) m.workers k.rule w can.0 can.1; sizes = k.sizes }
  keeps_rule (Join from to) can ann = record { rule = joins announced parts m.claims (word_at m.areas) m.workers k.rule to can.1.0 from can.0.0 can.2 can.1.1; sizes = k.sizes }

empties : (announced : List (List ℕ)) (b d : ℕ) → word_at (map (λ (keys : List ℕ). zeros (length keys + 1)) announced) b d ≡ 0
empties [] b d = refl
empties (x ∷ xs) zero d = all_zero (length x + 1) d
  where
    all_zero : (n i : ℕ) → get_or (zeros n) i 0 ≡ 0
    all_zero zero i = refl
    all_zero (suc n) zero = refl
    all_zero (suc n) (suc i) = all_zero n i
empties (x ∷ xs) (suc b) d = empties xs b d

sized : (announced : List (List ℕ)) (a : ℕ) → a < length announced → length (get_or (map (λ (keys : List ℕ). zeros (length keys + 1)) announced) a []) ≡ cells_of announced a
sized [] a h = absurd (omega arith)
sized (x ∷ xs) zero h = length-replicate (length x + 1) 0
sized (x ∷ xs) (suc a) h = sized xs a (omega arith)

pub starts : (announced : List (List ℕ)) (parts : ℕ) → 1 ≤ parts → length announced ≡ 3 → MeetsRule announced parts (start announced parts)
starts announced parts some three = record {
  rule = rule_starts announced parts (word_at (map (λ (keys : List ℕ). zeros (length keys + 1)) announced)) some (λ b d _ _. empties announced b d);
  sizes = λ a h. sized announced a (omega arith);
}

pub runs : (announced : List (List ℕ)) (parts : ℕ) (m : CoreState) (events : List Event) → MeetsRule announced parts m → CanRun announced m events → MeetsRule announced parts (reach_from m events)
runs announced parts m [] k can = k
runs announced parts m (e ∷ es) k can = runs announced parts (after m e) es (keeps_rule announced parts m k e can.0 can.1) can.2
