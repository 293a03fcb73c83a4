-- The stack window at a start: zeros, then words, then what stands above them.
use Rattle.std.proofs.Common.{◌≡◌, ℕ, zero, suc, ◌+◌, ◌-◌, ◌*◌, ◌^◌, ◌<◌, ◌≤◌, List, [], ◌∷◌, ◌++◌, length, take, drop, ap, ◌∙◌, sym, arith, Some, append_assoc, length-append}
use Rattle.std.specs.Prelude.{slice_index, replicate}
use Rattle.std.proofs.lemmas.List.{take_at, drop_at, drop-drop, length-replicate}
use Rattle.std.proofs.Math.Nat.{mul-le-mul_left}
use Rattle.bk_num.specs.Bytes.{number, bytes, each_bytes, load_in}
use Rattle.bk_num.proofs.Bytes.{length-bytes, length-each_bytes, number-bytes, load_is}

pub length-stack : (size stack results : ℕ) (words : List ℕ) → length (replicate stack 0 ++ (each_bytes size words ++ replicate (size * results) 0)) ≡ stack + size * length words + size * results
length-stack size stack results words =
    let a = length-append (replicate stack 0) (each_bytes size words ++ replicate (size * results) 0) in
    let b = length-append (each_bytes size words) (replicate (size * results) 0) in
    let r : length {A = ℕ} (replicate stack 0) ≡ stack = length-replicate stack 0 in
    let s : length {A = ℕ} (replicate (size * results) 0) ≡ size * results = length-replicate (size * results) 0 in
    omega (arith, a, b, r, s, length-each_bytes size words)

-- the word behind k words
word_at : (size : ℕ) (words tail : List ℕ) (k : ℕ) → k < length words → take size (drop (size * k) (each_bytes size words ++ tail)) ≡ bytes size (slice_index words k)
word_at size [] tail k h = absurd (omega arith)
word_at size (n ∷ ns) tail zero h =
    let e : size * 0 ≡ 0 = omega arith in
    ap (λ j. take size (drop j (each_bytes size (n ∷ ns) ++ tail))) e
    ∙ ap (take size) (append_assoc (bytes size n) (each_bytes size ns) tail)
    ∙ take_at (bytes size n) (each_bytes size ns ++ tail) size (length-bytes size n)
word_at size (n ∷ ns) tail (suc k) h =
    let e : size * suc k ≡ size + size * k = omega arith in
    ap (λ j. take size (drop j (each_bytes size (n ∷ ns) ++ tail))) e
    ∙ ap (take size) (sym (drop-drop (size * k) size (each_bytes size (n ∷ ns) ++ tail)))
    ∙ ap (λ l. take size (drop (size * k) (drop size l))) (append_assoc (bytes size n) (each_bytes size ns) tail)
    ∙ ap (λ l. take size (drop (size * k) l)) (drop_at (bytes size n) (each_bytes size ns ++ tail) size (length-bytes size n))
    ∙ word_at size ns tail k (omega arith)

-- each word is read at its place above the stack
pub word_in_stack : (size stack base k results : ℕ) (words : List ℕ) → slice_index words k < 256 ^ size → k < length words → load_in base (replicate stack 0 ++ (each_bytes size words ++ replicate (size * results) 0)) size (base + stack + size * k) ≡ Some (slice_index words k)
word_in_stack size stack base k results words lt h =
    let z : List ℕ = replicate stack 0 in
    let tail : List ℕ = replicate (size * results) 0 in
    let mem = z ++ (each_bytes size words ++ tail) in
    let r : length z ≡ stack = length-replicate stack 0 in
    let d : base + stack + size * k - base ≡ stack + size * k = omega arith in
    let more : size * suc k ≤ size * length words = mul-le-mul_left size (omega arith) in
    let next : size * suc k ≡ size * k + size = omega arith in
    load_is base size (base + stack + size * k) mem (omega arith) (omega (arith, length-stack size stack results words))
    ∙ ap (λ j. Some (number (take size (drop j mem)))) d
    ∙ ap (λ l. Some (number (take size l))) (sym (drop-drop (size * k) stack mem))
    ∙ ap (λ l. Some (number (take size (drop (size * k) l)))) (drop_at z (each_bytes size words ++ tail) stack r)
    ∙ ap (λ l. Some (number l)) (word_at size words tail k h)
    ∙ ap Some (number-bytes size (slice_index words k) lt)
