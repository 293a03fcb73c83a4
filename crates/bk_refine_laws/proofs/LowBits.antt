-- In strict form the numbers that values may have agree in the low bits of their types.
use Rattle.std.proofs.Common.{◌≡◌, ℕ, zero, suc, ◌+◌, ◌<◌, ◌≤◌, ◌^◌, ◌%◌, refl, ap, subst, sym, ◌∙◌, arith, List, [], ◌∷◌, map, Option, Some, None, inl, inr, ℤ}
use Rattle.std.specs.Prelude.{slice_index, unwrap_or}
use Rattle.std.proofs.Math.Nat.{mod-add-mod}
use Rattle.bk_num.specs.Word.{residue}
use Rattle.bk_num.proofs.Powers.{mod_mod}
use Rattle.bk_ops.specs.declared.types.Target.{Target}
use Rattle.bk_ops.specs.declared.types.Ty.{Ty}
use Rattle.bk_ops.specs.declared.family.Family.{Family}
use Rattle.bk_ops.specs.declared.family.Family.TheVariants as op
use Rattle.bk_ops.specs.declared.table.Op.{Op}
use Rattle.bk_ops.specs.Types.{word_width, width_of}
use Rattle.bk_ops.specs.Formulas.{formula}
use Rattle.bk_ops.specs.Values.{op_value, computed as computed_by, places_of, cut}
use Rattle.bk_func.specs.Records.{ValueRecord, FuncRecord}
use Rattle.bk_func.specs.Numbers.{Program, Env, Origin, phi, argument, argument_word, result, address, loaded, checked, same, computed, origin_of, number_by, state_of, address_by, made_of, read_at, natural, place_of_arg, result_place, cut_result}
use Rattle.bk_func.proofs.Faults.{In}
use Rattle.bk_func.proofs.Unique.{inputs_by, inputs_of, Ranked}
use Rattle.bk_rule.specs.WordSound.{bits, Agree}
use Rattle.bk_refine_laws.specs.Possible.{HasLow, MayBe, Possible}
use Rattle.bk_refine_laws.specs.Low.{Widths, LowSame, IsNarrow, AreNarrow, LowEnv}

pub fewer_bits : (w v a b : ℕ) → w ≤ v → Agree v a b → Agree w a b
fewer_bits w v a b l h = sym (mod_mod a w v l) ∙ (ap (λ n. n % 2 ^ w) h ∙ mod_mod b w v l)

low_low : (w : ℕ) (o u : Option ℕ) (a b : ℕ) → LowSame w o u → HasLow o w a → HasLow u w b → Agree w a b
low_low w None u a b h x y = elim h [ ]
low_low w (Some c) None a b h x y = elim h [ ]
low_low w (Some c) (Some d) a b h x y = x ∙ h ∙ sym y

add_low : (w a b r : ℕ) → Agree w a b → (a + r) % 2 ^ w ≡ (b + r) % 2 ^ w
add_low w a b r h = sym (mod-add-mod a (2 ^ w) r) ∙ (ap (λ z. (z + r) % 2 ^ w) h ∙ mod-add-mod b (2 ^ w) r)

-- the addresses of a load agree
address_low : (t : Target) (v : ValueRecord) (m n : ℕ → ℕ) → Agree (word_width t) (m (slice_index v.args 0)) (n (slice_index v.args 0)) → address_by t v m ≡ address_by t v n
address_low t v m n h = add_low (word_width t) (m (slice_index v.args 0)) (n (slice_index v.args 0)) (residue (word_width t) v.int) h

low_by : (w : ℕ) {a b c d : ℕ} → a ≡ c → b ≡ d → Agree w c d → Agree w a b
low_by w x y h = ap (λ z. z % 2 ^ w) x ∙ (h ∙ sym (ap (λ z. z % 2 ^ w) y))

-- a number cut to more bits
cut_low : (w v a b : ℕ) → w ≤ v → Agree w a b → Agree w (a % 2 ^ v) (b % 2 ^ v)
cut_low w v a b l h = mod_mod a w v l ∙ (h ∙ sym (mod_mod b w v l))

result_low : (o : Family) (t : Target) (ty : Ty) (w a b : ℕ) → w ≤ width_of ty t → Agree w a b → Agree w (cut_result o t ty a) (cut_result o t ty b)
result_low op.SelectN t ty w a b l h = cut_low w (width_of ty t) a b l h
result_low _ t ty w a b l h = h

agree : (c : Origin) (p : Program) (f : FuncRecord) (e d : Env) (m n : ℕ → ℕ) (width : Widths) (v : ValueRecord) → LowEnv width e d → IsNarrow c p f width v (width.value v.id) →
    ((x : ℕ) → In x (inputs_by c v) → Agree (width.value x) (m x) (n x)) → (a b : ℕ) → MayBe c p f e m v a → MayBe c p f d n v b → Agree (width.value v.id) a b
agree computed p f e d m n width v l h k a b x y =
    fewer_bits (width.value v.id) (bits p.target v) a b h.0
    (low_low (bits p.target v) (op_value v.op v.int (map m v.args) p.target) (op_value v.op v.int (map n v.args) p.target) a b (h.1 m n k) x y)
agree phi p f e d m n width v l h k a b x y = low_by (width.value v.id) x y (l.phis v.id)
agree argument p f e d m n width v l h k a b x y =
    low_by (width.value v.id) x y
    (cut_low (width.value v.id) (width_of v.ty p.target) (slice_index e.args (place_of_arg v.aux)) (slice_index d.args (place_of_arg v.aux)) h.0
    (fewer_bits (width.value v.id) (width.argument (place_of_arg v.aux)) (slice_index e.args (place_of_arg v.aux)) (slice_index d.args (place_of_arg v.aux)) h.1 (l.args (place_of_arg v.aux))))
agree argument_word p f e d m n width v l h k a b x y =
    low_by (width.value v.id) x y
    (fewer_bits (width.value v.id) (width.argument (natural v.int)) (slice_index e.args (natural v.int)) (slice_index d.args (natural v.int)) h (l.args (natural v.int)))
agree result p f e d m n width v l h k a b x y =
    let c : ℕ = slice_index v.args 0 in
    let j : ℕ = result_place v.op.family p f v in
    low_by (width.value v.id) x y
    (result_low v.op.family p.target v.ty (width.value v.id) (slice_index (e.given c) j) (slice_index (d.given c) j) h.0
    (fewer_bits (width.value v.id) (width.result c j) (slice_index (e.given c) j) (slice_index (d.given c) j) h.1 (l.given c j)))
agree address p f e d m n width v l h k a b x y = fewer_bits (width.value v.id) (bits p.target v) a b h (x ∙ sym y)
agree loaded p f e d m n width v l h k a b x y =
    let q : address_by p.target v m ≡ address_by p.target v n =
    address_low p.target v m n (fewer_bits (word_width p.target) (width.value (slice_index v.args 0)) (m (slice_index v.args 0)) (n (slice_index v.args 0)) h.0 (k (slice_index v.args 0) (inl refl))) in
    let r : number_by loaded p f e m v ≡ number_by loaded p f d n v =
    ap (λ z. made_of v.op.family v.ty v.op.a (read_at p.target v (e.windows (unwrap_or (state_of f v) 0)) z)) q
    ∙ ap (λ z. made_of v.op.family v.ty v.op.a (read_at p.target v (z (unwrap_or (state_of f v) 0)) (address_by p.target v n))) l.windows in
    fewer_bits (width.value v.id) (bits p.target v) a b h.1 (x ∙ (ap (λ z. z % 2 ^ bits p.target v) r ∙ sym y))
agree checked p f e d m n width v l h k a b x y =
    ap (λ z. z % 2 ^ width.value v.id) x
    ∙ (fewer_bits (width.value v.id) (width.value (slice_index v.args 0)) (m (slice_index v.args 0)) (n (slice_index v.args 0)) h (k (slice_index v.args 0) (inl refl))
    ∙ sym (ap (λ z. z % 2 ^ width.value v.id) y))
agree same p f e d m n width v l h k a b x y =
    ap (λ z. z % 2 ^ width.value v.id) x
    ∙ (fewer_bits (width.value v.id) (width.value (slice_index v.args 0)) (m (slice_index v.args 0)) (n (slice_index v.args 0)) h (k (slice_index v.args 0) (inl refl))
    ∙ sym (ap (λ z. z % 2 ^ width.value v.id) y))

-- two numberings that are possible under environments that agree
agree_below : (p : Program) (f : FuncRecord) (e d : Env) (m n : ℕ → ℕ) (width : Widths) (held : ℕ → Type 0) (rank : ℕ → ℕ) → Ranked f held rank → AreNarrow p f held width → LowEnv width e d →
    Possible p f e m → Possible p f d n → (k id : ℕ) → held id → rank id < k → Agree (width.value id) (m id) (n id)
agree_below p f e d m n width held rank ranked narrow l x y zero id h r = absurd (omega arith)
agree_below p f e d m n width held rank ranked narrow l x y (suc k) id h r =
    let (v, q, i, s) = narrow id h in
    let P : ℕ → Type 0 = λ z. Agree (width.value z) (m id) (n id) in
    let N : ℕ → Type 0 = λ z. IsNarrow (origin_of v.op.family) p f width v (width.value z) in
    subst P i
    (agree (origin_of v.op.family) p f e d m n width v l (subst N (sym i) s)
    (λ z j. (let O : Option ValueRecord → Type 0 = λ o. In z (inputs_of o) in
    let u = ranked.falls id h z (subst O (sym q) j) in
    agree_below p f e d m n width held rank ranked narrow l x y k z u.0 (omega (arith, u.1, r))))
    (m id) (n id) (x id v q) (y id v q))

pub possible_agree : (p : Program) (f : FuncRecord) (e d : Env) (m n : ℕ → ℕ) (width : Widths) (held : ℕ → Type 0) (rank : ℕ → ℕ) → Ranked f held rank → AreNarrow p f held width → LowEnv width e d →
    Possible p f e m → Possible p f d n → (id : ℕ) → held id → Agree (width.value id) (m id) (n id)
possible_agree p f e d m n width held rank ranked narrow l x y id h = agree_below p f e d m n width held rank ranked narrow l x y (suc (rank id)) id h (omega arith)

-- ---- ops
-- each place takes no more bits than its argument has
abbrev pub FitWidths : (ℕ → ℕ) → List ℕ → List ℕ → Type 0
FitWidths width [] [] = Unit {0}
FitWidths width [] (x ∷ xs) = ⊥
FitWidths width (w ∷ ws) [] = ⊥
FitWidths width (w ∷ ws) (x ∷ xs) = (w ≤ width x) × FitWidths width ws xs

cut_same : (width m n : ℕ → ℕ) (ws xs : List ℕ) → FitWidths width ws xs → ((x : ℕ) → In x xs → Agree (width x) (m x) (n x)) → cut ws (map m xs) ≡ cut ws (map n xs)
cut_same width m n [] [] h k = refl
cut_same width m n [] (x ∷ xs) h k = elim h [ ]
cut_same width m n (w ∷ ws) [] h k = refl
cut_same width m n (w ∷ ws) (x ∷ xs) (h, hs) k =
    ap (λ z. z ∷ cut ws (map m xs)) (fewer_bits w (width x) (m x) (n x) h (k x (inl refl)))
    ∙ ap (λ zs. n x % 2 ^ w ∷ zs) (cut_same width m n ws xs hs (λ y i. k y (inr i)))

-- an op whose places are no wider than its arguments has one value
pub op_same : (o : Op) (k : ℤ) (t : Target) (width m n : ℕ → ℕ) (xs : List ℕ) → FitWidths width (places_of (formula o.family o.a o.b k t)) xs → ((x : ℕ) → In x xs → Agree (width x) (m x) (n x)) →
    op_value o k (map m xs) t ≡ op_value o k (map n xs) t
op_same o k t width m n xs h a =
    ap (computed_by (formula o.family o.a o.b k t)) (cut_same width m n (places_of (formula o.family o.a o.b k t)) xs h a)
