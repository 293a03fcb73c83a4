-- What places of ops never take.
use Rattle.std.proofs.Common.{◌≡◌, refl, ℕ, ◌==◌, Bool, true, false, cond}
use Rattle.std.proofs.lemmas.Bool.{eqb-true}
use Rattle.bk_ops.specs.Table.{info_of}
use Rattle.bk_ops.specs.declared.family.Family.{Family}
use Rattle.bk_ops.specs.declared.family.Family.TheVariants as op
use Rattle.bk_ops.specs.declared.table.Op.{Op}
use Rattle.bk_func.specs.Form.Shapes.{Slot, slot, words_and_memory, first_else, is_last, bits, word, truth, memory, same, stored, argument, result}

neither : (b : Bool) (x y z : Slot) → (x ≡ z → ⊥) → (y ≡ z → ⊥) → cond b x y ≡ z → ⊥
neither true x y z p q e = p e
neither false x y z p q e = q e

no_bits : (n : ℕ) → bits n ≡ argument → ⊥
no_bits n e = absurd (cc)

no_word : word ≡ argument → ⊥
no_word e = absurd (cc)

no_memory : memory ≡ argument → ⊥
no_memory e = absurd (cc)

no_truth : truth ≡ argument → ⊥
no_truth e = absurd (cc)

no_same : same ≡ argument → ⊥
no_same e = absurd (cc)

no_stored : stored ≡ argument → ⊥
no_stored e = absurd (cc)

no_result : result ≡ argument → ⊥
no_result e = absurd (cc)

no_words : (o : Op) (i : ℕ) → words_and_memory o i ≡ argument → ⊥
no_words o i =
    neither (info_of o).memory (cond (is_last (info_of o).arity i) memory word) word argument
    (neither (is_last (info_of o).arity i) memory word argument no_memory no_word) no_word

first_place : (i : ℕ) → first_else i argument memory ≡ argument → i ≡ 0
first_place i e = by (i == 0) refl e
  where
    by : (b : Bool) → (i == 0) ≡ b → cond b argument memory ≡ argument → i ≡ 0
    by true h e = eqb-true i 0 h
    by false h e = absurd (no_memory e)

-- only words that calls take have a place for a word of an argument, which is the first
pub argument_at : (o : Op) (f : Family) (i : ℕ) → slot o f i ≡ argument → (f ≡ op.OutWord) × (i ≡ 0)
unfolding slot
argument_at o op.OutWord i e = (refl, first_place i e)
argument_at o op.Lsh i e = absurd (neither (i == 0) (bits o.a) (bits o.b) argument (no_bits o.a) (no_bits o.b) e)
argument_at o op.Rsh i e = absurd (neither (i == 0) (bits o.a) (bits o.b) argument (no_bits o.a) (no_bits o.b) e)
argument_at o op.RshU i e = absurd (neither (i == 0) (bits o.a) (bits o.b) argument (no_bits o.a) (no_bits o.b) e)
argument_at o op.RotateLeft i e = absurd (neither (i == 0) (bits o.a) word argument (no_bits o.a) no_word e)
argument_at o op.CondSelect i e = absurd (neither (i == 2) truth same argument no_truth no_same e)
argument_at o op.Store i e = absurd (neither (i == 1) stored (words_and_memory o i) argument no_stored (no_words o i) e)
argument_at o op.Load i e = absurd (no_words o i e)
argument_at o op.Zero i e = absurd (no_words o i e)
argument_at o op.Move i e = absurd (no_words o i e)
argument_at o op.NilCheck i e = absurd (no_words o i e)
argument_at o op.PanicBounds i e = absurd (no_words o i e)
argument_at o (op.Arm m) i e = absurd (no_words o i e)
argument_at o (op.Rv m) i e = absurd (no_words o i e)
argument_at o op.RetWord i e = absurd (neither (i == 0) result memory argument no_result no_memory e)
argument_at o _ i e = absurd (cc)
