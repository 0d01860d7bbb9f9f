-- There is one answer for the same bytes; and it is what the theorems of linked programs ask of it.
use mathlib.Core.Bool.{true, false, false≢true}
use mathlib.Core.List.{List, []}
use mathlib.Core.Path.{◌≡◌, refl, sym, ap, ◌∙◌}
use native.Mathlib.Omega.{arith}
use Prim.Native.Nat.{ℕ, ◌+◌}
use lib.ListN.{length, replicate}
use Rattle.linking.specs.Answered.{IsCommon, AreBytes, Answered, over_long, unread, misnamed, no_objects, joined}
use Rattle.machine.specs.Bytes.{words_of}
use Rattle.names.specs.Known.{Checked, good, wrong, Names}
use Rattle.objects.specs.Whole.{good_views}
use Rattle.parts.specs.Form.{AreObjects, last_length, LinksWords}
use Rattle.parts.specs.Link.{Linked, refused, link}
use Rattle.parts.specs.Objects.{common_means}
use Rattle.processor.specs.Process.{Part, part_of}
use Rattle.syntax.specs.Reading.{Read, got, fault}
use Rattle.syntax.specs.Texts.{Common, too_long, read_common}
use Rattle.words.specs.Words.{Word}

got_same : {A : Type 0} {a b : A} {ws vs : List Word} → got a ws ≡ got b vs → a ≡ b
got_same e = cc

got_fault : {A B : Type 0} {a : A} {ws : List Word} {n : ℕ} {w : Word} → ◌≡◌ {A = Read A} (got a ws) (fault n w) → B
got_fault e = let z : ◌≡◌ {A = ℕ} 0 1 = cc in absurd (omega (arith, z))

good-same : {A : Type 0} {a b : A} → good a ≡ good b → a ≡ b
good-same e = cc

good-wrong : {A B : Type 0} {a : A} {n : ℕ} {w : Word} → ◌≡◌ {A = Checked A} (good a) (wrong n w) → B
good-wrong e = let z : ◌≡◌ {A = ℕ} 0 1 = cc in absurd (omega (arith, z))

fault-part : {A : Type 0} {n m : ℕ} {w v : Word} → ◌≡◌ {A = Read A} (fault n w) (fault m v) → ◌≡◌ {A = Linked} (refused n 0 (part_of w)) (refused m 0 (part_of v))
fault-part {n = n} {m} {w} {v} e = let a : n ≡ m = cc in let b : w ≡ v = cc in rw (a, b) refl

wrong-part : {A : Type 0} {n m : ℕ} {w v : Word} → ◌≡◌ {A = Checked A} (wrong n w) (wrong m v) → ◌≡◌ {A = Linked} (refused n 0 (part_of w)) (refused m 0 (part_of v))
wrong-part {n = n} {m} {w} {v} e = let a : n ≡ m = cc in let b : w ≡ v = cc in rw (a, b) refl

too_short : (common : List ℕ) {A : Type 0} → too_long common ≡ true → too_long common ≡ false → A
too_short common e f = absurd (false≢true (sym f ∙ e))

-- a text is one common part with one meaning
common-same : {common : List ℕ} {c d : Common} {n m : Names} → IsCommon common c n → IsCommon common d m → (P : Common → Names → Type 0) → P d m → P c n
common-same {c = c} {d} {n} {m} x y P p =
    let e : c ≡ d = got_same (sym x.reads ∙ y.reads) in
    let f : n ≡ m = good-same (sym x.means ∙ ap (λ (k : Common). common_means k []) e ∙ y.means) in
    rw (e, f) p

record ShowsAs (common objects : List ℕ) (c : Common) (n : Names) (d : Common) (m : Names) : Type 0 where
  same : ◌≡◌ {A = Linked} (refused 40 (1 + good_views c.listed n common (length (words_of objects)) (words_of objects)) (record { start = 0; size = 0 }))
      (refused 40 (1 + good_views d.listed m common (length (words_of objects)) (words_of objects)) (record { start = 0; size = 0 }))

-- 40 shows the same text
both-none : (common objects : List ℕ) {c d : Common} {n m : Names} → IsCommon common c n → IsCommon common d m
    → ◌≡◌ {A = Linked} (refused 40 (1 + good_views c.listed n common (length (words_of objects)) (words_of objects)) (record { start = 0; size = 0 }))
    (refused 40 (1 + good_views d.listed m common (length (words_of objects)) (words_of objects)) (record { start = 0; size = 0 }))
both-none common objects {d = d} {m = m} x y = (common-same x y (λ c n. ShowsAs common objects c n d m) (record { same = refl })).same

record LinksAs (common objects : List ℕ) (room : ℕ) (a : Linked) (c : Common) (n : Names) : Type 0 where
  same : (h : AreObjects common c n (words_of objects)) → a ≡ link common c n (replicate (last_length h.lengths) 0) h.objects room

module _ {common objects : List ℕ} {room : ℕ} where
  pub one_answer : {a b : Linked} → Answered common objects room a → Answered common objects room b → a ≡ b
  one_answer (over_long t) (over_long u) = refl
  one_answer (over_long t) (unread k l r) = too_short common t l
  one_answer (over_long t) (misnamed k l r m) = too_short common t l
  one_answer (over_long t) (no_objects x f) = too_short common t x.short
  one_answer (over_long t) (joined x y f) = too_short common t x.short
  one_answer (unread k l r) (over_long t) = too_short common t l
  one_answer (unread k l r) (unread k' l' r') = fault-part (sym r ∙ r')
  one_answer (unread k l r) (misnamed k' l' r' m) = got_fault (sym r' ∙ r)
  one_answer (unread k l r) (no_objects x f) = got_fault (sym x.reads ∙ r)
  one_answer (unread k l r) (joined x y f) = got_fault (sym x.reads ∙ r)
  one_answer (misnamed k l r m) (over_long t) = too_short common t l
  one_answer (misnamed k l r m) (unread k' l' r') = got_fault (sym r ∙ r')
  one_answer (misnamed k l r m) (misnamed k' l' r' m') = wrong-part (sym m ∙ ap (λ (c : Common). common_means c []) (got_same (sym r ∙ r')) ∙ m')
  one_answer (misnamed k l r m) (no_objects x f) = good-wrong (sym x.means ∙ ap (λ (c : Common). common_means c []) (got_same (sym x.reads ∙ r)) ∙ m)
  one_answer (misnamed k l r m) (joined x y f) = good-wrong (sym x.means ∙ ap (λ (c : Common). common_means c []) (got_same (sym x.reads ∙ r)) ∙ m)
  one_answer (no_objects x f) (over_long t) = too_short common t x.short
  one_answer (no_objects x f) (unread k l r) = got_fault (sym x.reads ∙ r)
  one_answer (no_objects x f) (misnamed k l r m) = good-wrong (sym x.means ∙ ap (λ (c : Common). common_means c []) (got_same (sym x.reads ∙ r)) ∙ m)
  one_answer (no_objects x f) (no_objects y g) = both-none common objects x y
  one_answer (no_objects x f) (joined y z g) = absurd (f (common-same x y (λ c n. AreBytes common c n objects) z))
  one_answer (joined x y f) (over_long t) = too_short common t x.short
  one_answer (joined x y f) (unread k l r) = got_fault (sym x.reads ∙ r)
  one_answer (joined x y f) (misnamed k l r m) = good-wrong (sym x.means ∙ ap (λ (c : Common). common_means c []) (got_same (sym x.reads ∙ r)) ∙ m)
  one_answer (joined x y f) (no_objects z g) = absurd (g (common-same z x (λ c n. AreBytes common c n objects) y))
  one_answer {a} {b} (joined x y f) (joined z w g) = let k = common-same x z (λ c n. LinksAs common objects room b c n) (record { same = g }) in f y.are ∙ sym (k.same y.are)

  -- the two ways of an answer that the theorems know: by linking's definition for the words of the objects; or a refusal
  pub answer-ways : (P : Linked → Type 0)
      → ((c : Common) (rest : List Word) (n : Names) (a : Linked) → read_common common ≡ got c rest → common_means c [] ≡ good n → LinksWords common c n (words_of objects) room a → P a)
      → ((number text : ℕ) (at : Part) → (number ≡ 0 → ⊥) → P (refused number text at))
      → {a : Linked} → Answered common objects room a → P a
  answer-ways P f g (over_long t) = g _ _ _ (λ z. omega (arith, z))
  answer-ways P f g (unread k l r) = g _ _ _ k
  answer-ways P f g (misnamed k l r m) = g _ _ _ k
  answer-ways P f g (no_objects x h) = g _ _ _ (λ z. omega (arith, z))
  answer-ways P f g (joined x y h) = f _ x.rest _ _ x.reads x.means (record { linked_so = h; not_objects = λ n. absurd (n y.are) })
