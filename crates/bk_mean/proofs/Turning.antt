-- One more turn of a block's values.
use Rattle.std.proofs.Common.{◌≡◌, ℕ, ◌+◌, ◌<◌, ◌≤◌, refl, ap, sym, ◌∙◌, subst, List, [], ◌∷◌, ◌++◌, length, length-append, arith, ◌-◌, take, drop, get_or, Option, Some, None}
use Rattle.std.proofs.lemmas.List.{drop_more}
use Rattle.bk_func.specs.Records.{BlockRecord}
use Rattle.bk_mean.specs.declared.step.After.{After}
use Rattle.bk_mean.specs.declared.step.After.TheVariants.{On}
use Rattle.bk_mean.specs.declared.ready.ReadyValue.{ReadyValue}
use Rattle.std.proofs.Math.ListN.{drop_of_length-le}
use Rattle.bk_mean.specs.declared.machine.Activation.{Activation}
use Rattle.bk_mean.specs.declared.step.CallWords.{CallWords}
use Rattle.bk_ops.specs.declared.types.Target.{Target}
use Rattle.bk_func.specs.Records.{PackageRecord}
use Rattle.bk_mean.specs.declared.ready.Ready.{Ready}
use Rattle.bk_mean.specs.declared.turn.Next.{Next}
use Rattle.bk_mean.specs.declared.turn.Next.TheVariants as next
use Rattle.bk_mean.specs.Left.{going, put_all}
use Rattle.bk_mean.specs.Running.{Held, stored, Moved, Ended, top, Advanced, none, on, back, TakesWords}
use Rattle.bk_func.specs.Words.{words_at}
use Rattle.bk_mean.specs.Seen.{word_in}
use Rattle.bk_mean.specs.declared.words.Words.{Words}
use Rattle.std.proofs.Math.Seq.{get_or-append_seam}
use Rattle.std.proofs.Math.ListN.{set}
use Rattle.bk_mean.specs.Turned.{Stage, Ground, IsTurn, Turned, absent, onward, ends, TurnAt}

here : (order : List ℕ) (i k : ℕ) → i < length order → k ≡ get_or order i k → drop i order ≡ k ∷ drop (i + 1) order
here order i k h e = drop_more order i k h ∙ ap (λ x. x ∷ drop (i + 1) order) (sym e)

pub turn_ends : (g : Ground) (c : BlockRecord) (first : ℕ) (rs : List ReadyValue) (order : List ℕ) (i k place : ℕ) (x : After) (a b : Stage) → i < length order → k ≡ get_or order i k →
    TurnAt g c first rs k a b (Some (place, x)) → ¬ (x ≡ On) → Turned g c first rs (drop i order) a b (drop (i + 1) order) place x
turn_ends g c first rs order i k place x a b h e (p, (v, r, q, w, t)) n =
    subst (λ n. Turned g c first rs (drop i order) a b (drop (i + 1) order) n x) (sym p)
    (subst (λ ks. Turned g c first rs ks a b (drop (i + 1) order) (first + k) x) (sym (here order i k h e)) (ends k (drop (i + 1) order) v r a b x q w t n))

pub turn_on : (g : Ground) (c : BlockRecord) (first : ℕ) (rs : List ReadyValue) (order : List ℕ) (i k place : ℕ) (x : After) (a b : Stage) → i < length order → k ≡ get_or order i k →
    TurnAt g c first rs k a b (Some (place, x)) → x ≡ On → (d : Stage) (rest : List ℕ) (last : ℕ) (y : After) → Turned g c first rs (drop (i + 1) order) b d rest last y → Turned g c first rs (drop i order) a d rest last y
turn_on g c first rs order i k place x a b h e (p, (v, r, q, w, t)) n d rest last y next =
    subst (λ ks. Turned g c first rs ks a d rest last y) (sym (here order i k h e))
    (onward k (drop (i + 1) order) rest v r a b d last y q w (subst (λ z. IsTurn g v r (first + k) a b z) n t) next)

pub turn_none : (g : Ground) (c : BlockRecord) (first : ℕ) (rs : List ReadyValue) (order : List ℕ) (i k : ℕ) (a b : Stage) → i < length order → k ≡ get_or order i k →
    TurnAt g c first rs k a b None → (d : Stage) (rest : List ℕ) (last : ℕ) (y : After) → Turned g c first rs (drop (i + 1) order) b d rest last y → Turned g c first rs (drop i order) a d rest last y
turn_none g c first rs order i k a b h e (q, s) d rest last y next =
    subst (λ ks. Turned g c first rs ks a d rest last y) (sym (here order i k h e))
    (absent k (drop (i + 1) order) rest a d last y q (subst (λ z. Turned g c first rs (drop (i + 1) order) z d rest last y) s next))

-- a call that goes farther on twice
pub gone : (a b d : Activation) (n by : ℕ) (ws : CallWords) → b ≡ going a b.next b.called_by b.words → d ≡ going b n by ws → d ≡ going a d.next d.called_by d.words
gone a b d n by ws i e = e ∙ ap (λ (z : Activation). going z n by ws) i ∙ sym (ap (λ (z : Activation). going a z.next z.called_by z.words) e)

-- numbers that are put in their places, where no more are given
pub put_none : (first i : ℕ) (ks ns numbers all : List ℕ) → length ns ≤ i → put_all first (drop i ks) (drop i ns) numbers ≡ all → numbers ≡ all
put_none first i ks ns numbers all h e = sym (nothing (drop i ks)) ∙ ap (λ xs. put_all first (drop i ks) xs numbers) (sym (drop_of_length-le ns h)) ∙ e
  where
    nothing : (xs : List ℕ) → put_all first xs [] numbers ≡ numbers
    nothing [] = refl
    nothing (x ∷ xs) = refl

-- calls that move on, one upon the other
pub advanced_on : (t u : Target) (p : PackageRecord) (readies : List (Option Ready)) (a b : Held) (cs : List Activation) (c d : Activation) (x : Next) → t ≡ u → a.calls ≡ cs ++ c ∷ [] → b.calls ≡ cs ++ d ∷ [] →
    Moved u p readies c d (stored a) (stored b) x → ¬ (x ≡ next.Return) → Advanced t p readies a b x
advanced_on t u p readies a b cs c d x e i j moved n = on a b cs c d x i j (let P : Target → Type 0 = λ z. Moved z p readies c d (stored a) (stored b) x in subst P (sym e) moved) n

pub advanced_back : (t u : Target) (p : PackageRecord) (readies : List (Option Ready)) (a m b e : Held) (cs : List Activation) (c d : Activation) (y x : Next) → t ≡ u → a.calls ≡ cs ++ c ∷ [] → b.calls ≡ cs →
    Moved u p readies c d (stored a) (stored m) y → y ≡ next.Return → Ended u p readies (top cs) d m b → b.window ≡ m.window → Advanced t p readies b e x → Advanced t p readies a e x
advanced_back t u p readies a m b e cs c d y x k i j moved z ended w rest =
    let P : Target → Type 0 = λ v. Moved v p readies c d (stored a) (stored m) next.Return in
    let S : Next → Type 0 = λ v. Moved u p readies c d (stored a) (stored m) v in
    let E : Target → Type 0 = λ v. Ended v p readies (top cs) d m b in
    back a m b e cs c d x i j (subst P (sym k) (subst S z moved)) (subst E (sym k) ended) w rest

-- no call is under way
pub advanced_none : (t : Target) (p : PackageRecord) (readies : List (Option Ready)) (a b : Held) → a.calls ≡ [] → b.calls ≡ [] → b.window ≡ a.window → b.hand ≡ a.hand → b.numbers ≡ a.numbers →
    Advanced t p readies a b next.Return
advanced_none t p readies a b e k w h n =
    let P : Held → Type 0 = λ z. Advanced t p readies a z next.Return in
    let same : a ≡ b =
    ap (λ (x : List ℕ). record { window = x; hand = a.hand; numbers = a.numbers; calls = a.calls }) (sym w)
    ∙ ap (λ (x : List ℕ). record { window = b.window; hand = x; numbers = a.numbers; calls = a.calls }) (sym h)
    ∙ ap (λ (x : List ℕ). record { window = b.window; hand = b.hand; numbers = x; calls = a.calls }) (sym n)
    ∙ ap (λ (x : List Activation). record { window = b.window; hand = b.hand; numbers = b.numbers; calls = x }) (e ∙ sym k) in
    subst P same (none a e)

-- the words of the call on top are taken
set_last : (cs : List Activation) (c d : Activation) (n : ℕ) → n ≡ length cs → set (cs ++ c ∷ []) n d ≡ cs ++ d ∷ []
set_last [] c d n e = ap (λ k. set (c ∷ []) k d) e
set_last (x ∷ cs) c d n e = ap (λ k. set (x ∷ (cs ++ c ∷ [])) k d) e ∙ ap (λ xs. x ∷ xs) (set_last cs c d (length cs) refl)

pub took : (count : ℕ) (a b : Held) (call : Activation) (w : Words) (m : ℕ) → m ≡ length a.calls → b.window ≡ a.window → b.numbers ≡ a.numbers → b.hand ≡ a.hand ++ words_at (word_in call.words.out) (length a.hand) (count - length a.hand) →
    call ≡ get_or a.calls (m - 1) call → b.calls ≡ set a.calls (m - 1) (record call { words = record { out = w; back = call.words.back; regs = call.words.regs } }) → ((k : ℕ) → word_in w k ≡ 0) → TakesWords count a b
took count a b call w m at_m win num hand own calls zero = record {
  window = win;
  numbers = num;
  hand = λ cs c e. hand ∙ ap (λ (z : Activation). a.hand ++ words_at (word_in z.words.out) (length a.hand) (count - length a.hand)) (its cs c e);
  calls = λ cs c e. (
    w,
    zero,
    calls ∙ ap (λ k. set a.calls (k - 1) (record call { words = record { out = w; back = call.words.back; regs = call.words.regs } })) at_m
        ∙ ap (λ (xs : List Activation). set xs (length xs - 1) (record call { words = record { out = w; back = call.words.back; regs = call.words.regs } })) e
        ∙ set_last cs c (record call { words = record { out = w; back = call.words.back; regs = call.words.regs } }) (length (cs ++ c ∷ []) - 1) (let l = length-append cs (c ∷ []) in omega (arith, l))
        ∙ ap (λ (z : Activation). cs ++ (record z { words = record { out = w; back = z.words.back; regs = z.words.regs } }) ∷ []) (its cs c e),
  );
}
  where
    its : (cs : List Activation) (c : Activation) → a.calls ≡ cs ++ c ∷ [] → call ≡ c
    its cs c e =
        let n : length (cs ++ c ∷ []) - 1 ≡ length cs = (let l = length-append cs (c ∷ []) in omega (arith, l)) in
        own ∙ ap (λ k. get_or a.calls (k - 1) call) at_m ∙ ap (λ (xs : List Activation). get_or xs (length xs - 1) call) e ∙ ap (λ k. get_or (cs ++ c ∷ []) k call) n ∙ get_or-append_seam cs c [] call

-- a call that moves on in the numbers of a list
take_whole : (xs ys : List ℕ) (n : ℕ) → n ≡ length xs → take n (xs ++ ys) ≡ xs
take_whole xs ys n e = ap (λ k. take k (xs ++ ys)) e ∙ go xs
  where
    go : (zs : List ℕ) → take (length zs) (zs ++ ys) ≡ zs
    go [] = refl
    go (z ∷ zs) = ap (λ ws. z ∷ ws) (go zs)

-- the numbers of a list of which the part from a base on was changed
pub changed_from : (front new shown old : List ℕ) (base len : ℕ) → shown ≡ old → len ≡ length old → front ≡ take base shown → length (front ++ new) ≡ length shown →
    take len ((front ++ new) ++ drop (length (front ++ new)) old) ≡ take base old ++ new
changed_from front new shown old base len e l f n =
    take_whole (front ++ new) (drop (length (front ++ new)) old) len (let q = ap length e in omega (arith, l, n, q)) ∙ ap (λ z. z ++ new) (f ∙ ap (take base) e)
