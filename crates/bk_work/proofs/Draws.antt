-- The numbers of all workers of a round.
use Rattle.std.proofs.Common.{◌≡◌, ◌≢◌, ℕ, ◌+◌, ◌≤◌, ◌==◌, Bool, false, cond, List, [], ◌∷◌, ◌++◌, length, refl, sym, ap, ◌∙◌, subst, arith, length-append}
use Rattle.std.proofs.lemmas.Bool.Decides.{nat_tests}
use Rattle.std.proofs.lemmas.List.{map-append, length-map}
use Rattle.std.proofs.lemmas.List.Sums.{sum_by-append, sum_by-cons}
use Rattle.std.proofs.lemmas.List.Elements.{Contains-append_right, Contains-push}
use Rattle.bk_work.specs.Rounds.{Item, claims_of}
use Rattle.bk_work.specs.Run.{times_in, AreDrawn}

pub times_append : (x : ℕ) (xs ys : List ℕ) → times_in x (xs ++ ys) ≡ times_in x xs + times_in x ys
times_append x xs ys = sum_by-append (λ (y : ℕ). cond {A = ℕ} (y == x) 1 0) xs ys

pub times_other : (x n : ℕ) → x ≢ n → times_in x (n ∷ []) ≡ 0
times_other x n ne =
    let miss : (n == x) ≡ false = grind (arith, nat_tests) in
    sum_by-cons (λ (y : ℕ). cond {A = ℕ} (y == x) 1 0) n [] ∙ ap (λ (b : Bool). cond {A = ℕ} b 1 0 + 0) miss

pub nothing_drawn : (count : ℕ) (v : List ℕ) → AreDrawn count 0 v v []
nothing_drawn count v = record { long = omega arith; times = λ x lt. let z : times_in x (claims_of []) ≡ 0 = refl in omega arith; past = λ lt. absurd (omega arith) }

-- the numbers of one worker
pub drawn_alone : (count : ℕ) (w : List ℕ) (items : List Item) (last : ℕ) → count ≤ last → w ≡ claims_of items ++ last ∷ [] → AreDrawn count 1 [] w items
drawn_alone count w items last past is = subst (λ (l : List ℕ). AreDrawn count 1 [] l items) (sym is) (record {
  long = let l = length-append (claims_of items) (last ∷ []) in let m : length (claims_of items) ≡ length items = length-map items (λ (i : Item). i.0) in omega arith;
  times = λ x lt. let a = times_append x (claims_of items) (last ∷ []) in let o = times_other x last (λ e. absurd (omega arith)) in let z : times_in x [] ≡ 0 = refl in omega arith;
  past = λ _. (last, past, Contains-push (claims_of items) last);
})

-- one worker more
pub drawn_join : (count k : ℕ) (v u w x : List ℕ) (items more all : List Item) → AreDrawn count k v u items → AreDrawn count 1 [] w more → x ≡ u ++ w → all ≡ items ++ more → AreDrawn count (k + 1) v x all
drawn_join count k v u w x items more all a b numbers together = subst (λ (l : List ℕ). AreDrawn count (k + 1) v l all) (sym numbers) (subst (λ (l : List Item). AreDrawn count (k + 1) v (u ++ w) l) (sym together) (record {
  long = let p = length-append u w in let q = length-append items more in let r = a.long in let s = b.long in omega arith;
  times = λ y lt.
      let p = times_append y u w in let r = a.times y lt in let s = b.times y lt in let z : times_in y [] ≡ 0 = refl in
      let q : times_in y (claims_of (items ++ more)) ≡ times_in y (claims_of items) + times_in y (claims_of more) = ap (times_in y) (map-append (λ (i : Item). i.0) items more) ∙ times_append y (claims_of items) (claims_of more) in omega arith;
  past = λ _. let p = b.past (omega arith) in (p.0, p.1, Contains-append_right u w p.0 p.2);
}))
