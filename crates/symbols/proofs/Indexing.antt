-- Putting a node before the chain of its word keeps every chain.
use borrow.Rule.Slice.PartMut.{put_mid, mid_of}
use Rattle.std.proofs.lemmas.List.{get_or-append_right, get_or_append_left}
use mathlib.Core.Bool.{Bool, true, false}
use mathlib.Core.List.{List, [], ◌∷◌, ◌++◌}
use mathlib.Core.Logic.{◌⊎◌, inl, inr}
use mathlib.Core.Option.{Option, none, some}
use mathlib.Core.Path.{◌≡◌, refl, sym, ap, ◌∙◌, subst}
use Prim.Native.Nat.{ℕ, zero, suc, ◌+◌, ◌-◌, ◌*◌, ◌/◌, ◌≤◌, ◌<◌}
use lib.Dec.{eqb}
use lib.ListN.{length, get_or, set, take, drop, replicate, length-set, length-take, length-drop, length-append, length-replicate}
use lib.Seq.{get_or-take}
use Rattle.base.proofs.Laws.{zeros-at}
use lib.Seq.{get_or-set_same, get_or-set_other}
use borrow.Author.Tests.{eqb-true, eqb-false, eq-eqb, ne_eqb}
use native.Mathlib.Omega.{arith}
use Rattle.std.specs.Prelude.{if◌then◌else◌}
use Rattle.declarations.specs.Decls.{Decl}
use Rattle.symbols.proofs.Parts.{bucket-low}
use Rattle.symbols.specs.Index.{Chain, chain_end, chain_node, Among, here, later, head_at, link_at, key_of, push_rows, push_second, push_name, bucket_of, RowsKept, IndexKept, Kept}
use Rattle.symbols.specs.Rows.{decl_at, option_of, second_kind, word_of, held_from, held}
use Rattle.symbols.specs.Search.{part}
use Rattle.words.specs.Words.{Word}

-- a number that no link of the chain stands at may be written
chain-kept : {rows : List ℕ} {p : ℕ} {is : List ℕ} (lo i x : ℕ) → Chain rows p is → (p ≡ 0) ⊎ (lo < p) → ((k : ℕ) → lo ≤ k → 4608 + k ≡ i → ⊥) → Chain (set rows i x) p is
chain-kept lo i x (chain_end e) h apart = chain_end e
chain-kept {rows} {p} lo i x (chain_node {k = k} {is = is} e u q c) h apart = chain_node {k = k} {is = is} e u (rw d q) (rw d (chain-kept lo i x c (next q) apart))
  where
    high : (p ≡ 0) ⊎ (lo < p) → lo ≤ k
    high (inl z) = absurd (omega (arith, z, e))
    high (inr z) = omega (arith, z, e)

    d : link_at (set rows i x) k ≡ link_at rows k
    d = get_or-set_other rows i (4608 + k) x 0 (λ z. apart k (high h) z)

    next : (link_at rows k ≡ 0) ⊎ (p < link_at rows k) → (link_at rows k ≡ 0) ⊎ (lo < link_at rows k)
    next (inl z) = inl z
    next (inr z) = inr (omega (arith, z, e, high h))

-- chains of nodes above lo; what each meets is said by `chain`
pub record Nodes (rows : List ℕ) (lo : ℕ) (chain : ℕ → List ℕ) : Type 0 where
  pub follows : (b : ℕ) → b < 511 → Chain rows (head_at rows b) (chain b)
  pub above : (b : ℕ) → b < 511 → (head_at rows b ≡ 0) ⊎ (lo < head_at rows b)

-- the chains with node k before that of b
abbrev pub pushed : (ℕ → List ℕ) → ℕ → ℕ → ℕ → List ℕ
pushed chain b k c = if eqb c b then k / 2 ∷ chain c else chain c

pub push-nodes : {rows : List ℕ} {lo : ℕ} {chain : ℕ → List ℕ} (b k : ℕ) → Nodes rows lo chain → length rows ≡ 6017 → b < 511 → k < 1024 → k < lo → Nodes (push_rows rows b k) k (pushed chain b k)
push-nodes {rows} {lo} {chain} b k n size lb lk l = record { follows = λ c lc. one c lc (eqb c b) refl; above = λ c lc. top c lc (eqb c b) refl }
  where
    mid : List ℕ
    mid = set rows (4608 + k) (head_at rows b)

    new : List ℕ
    new = push_rows rows b k

    -- a chain of nodes above k stays
    stays : {p : ℕ} {is : List ℕ} → Chain rows p is → (p ≡ 0) ⊎ (lo < p) → Chain new p is
    stays {p} c h = chain-kept 0 (4096 + b) (k + 1) (chain-kept lo (4608 + k) (head_at rows b) c h (λ j x e. omega (arith, x, e, l))) (wide h) (λ j x e. omega (arith, e, lb))
      where
        wide : (p ≡ 0) ⊎ (lo < p) → (p ≡ 0) ⊎ (0 < p)
        wide (inl z) = inl z
        wide (inr z) = inr (omega (arith, z))

    head-own : head_at new b ≡ k + 1
    head-own = get_or-set_same mid (4096 + b) (k + 1) 0 (omega (arith, lb, size, length-set rows (4608 + k) (head_at rows b)))

    head-other : (c : ℕ) → c < 511 → (c ≡ b → ⊥) → head_at new c ≡ head_at rows c
    head-other c lc d = get_or-set_other mid (4096 + b) (4096 + c) (k + 1) 0 (λ e. d (omega (arith, e))) ∙ get_or-set_other rows (4608 + k) (4096 + c) (head_at rows b) 0 (λ e. omega (arith, e, lc))

    link-own : link_at new k ≡ head_at rows b
    link-own = get_or-set_other mid (4096 + b) (4608 + k) (k + 1) 0 (λ e. omega (arith, e, lb)) ∙ get_or-set_same rows (4608 + k) (head_at rows b) 0 (omega (arith, lk, size))

    rising : (head_at rows b ≡ 0) ⊎ (lo < head_at rows b) → (head_at rows b ≡ 0) ⊎ (k + 1 < head_at rows b)
    rising (inl z) = inl z
    rising (inr z) = inr (omega (arith, z, l))

    own : Chain new (k + 1) (k / 2 ∷ chain b)
    own = chain_node {p = k + 1} {k = k} {is = chain b} (omega arith) lk (rw link-own (rising (n.above b lb))) (rw link-own (stays (n.follows b lb) (n.above b lb)))

    one : (c : ℕ) → c < 511 → (t : Bool) → eqb c b ≡ t → Chain new (head_at new c) (if t then k / 2 ∷ chain c else chain c)
    one c lc true e = let d : c ≡ b = eqb-true c b e in rw d (rw head-own own)
    one c lc false e = rw (head-other c lc (eqb-false c b e)) (stays (n.follows c lc) (n.above c lc))

    top : (c : ℕ) → c < 511 → (t : Bool) → eqb c b ≡ t → (head_at new c ≡ 0) ⊎ (k < head_at new c)
    top c lc true e = let d : c ≡ b = eqb-true c b e in rw d (rw head-own (inr (omega arith)))
    top c lc false e = rw (head-other c lc (eqb-false c b e)) (lower (n.above c lc))
      where
        lower : (head_at rows c ≡ 0) ⊎ (lo < head_at rows c) → (head_at rows c ≡ 0) ⊎ (k < head_at rows c)
        lower (inl z) = inl z
        lower (inr z) = inr (omega (arith, z, l))

-- the rows

pub rows_same : (rows : List ℕ) → RowsKept rows rows
rows_same rows = record { size = refl; kept = λ j l. refl }

pub rows-after : {a b c : List ℕ} → RowsKept a b → RowsKept b c → RowsKept a c
rows-after f g = record { size = g.size ∙ f.size; kept = λ j l. g.kept j l ∙ f.kept j l }

-- a number behind the rows is written
pub rows-set : (rows : List ℕ) (i x : ℕ) → 4096 ≤ i → RowsKept rows (set rows i x)
rows-set rows i x h = record { size = length-set rows i x; kept = λ j l. get_or-set_other rows i j x 0 (λ e. omega (arith, e, l, h)) }

rows_pushed : (rows : List ℕ) (b k : ℕ) → RowsKept rows (push_rows rows b k)
rows_pushed rows b k = rows-after (rows-set rows (4608 + k) (head_at rows b) (omega arith)) (rows-set _ (4096 + b) (k + 1) (omega arith))

-- the key stands between heads and links
key_pushed : (rows : List ℕ) (b k : ℕ) → b < 511 → key_of (push_rows rows b k) ≡ key_of rows
key_pushed rows b k l = get_or-set_other (set rows (4608 + k) (head_at rows b)) (4096 + b) 4607 (k + 1) 0 (λ e. omega (arith, e, l)) ∙ get_or-set_other rows (4608 + k) 4607 (head_at rows b) 0 (λ e. omega (arith, e))

-- the key is written
pub key_set : (rows : List ℕ) (key : ℕ) → length rows ≡ 6017 → key_of (set rows 4607 key) ≡ key
key_set rows key size = get_or-set_same rows 4607 key 0 (omega (arith, size))

-- it is no head
pub clear-keyed : (rows : List ℕ) (key : ℕ) → ((b : ℕ) → b < 511 → head_at rows b ≡ 0) → (b : ℕ) → b < 511 → head_at (set rows 4607 key) b ≡ 0
clear-keyed rows key z b l = get_or-set_other rows 4607 (4096 + b) key 0 (λ e. omega (arith, e, l)) ∙ z b l

-- the heads are filled
pub mid-length : (rows : List ℕ) → length rows ≡ 6017 → length (mid_of 4096 511 rows) ≡ 511
mid-length rows s = simp (length-take, length-drop) (omega (arith, s))

pub heads-kept : (rows ys : List ℕ) → length rows ≡ 6017 → length ys ≡ 511 → RowsKept rows (put_mid 4096 511 rows ys)
heads-kept rows ys s l = record {
  size = simp (length-append, length-take, length-drop) (omega (arith, s, l));
  kept = λ j h. get_or_append_left (take 4096 rows) _ 0 j (simp (length-take) (omega (arith, s, h))) ∙ get_or-take 4096 rows j 0 h;
}

pub heads-clear : (rows ys : List ℕ) (k : ℕ) → length rows ≡ 6017 → ys ≡ replicate k 0 → k ≡ 511 → (b : ℕ) → b < 511 → head_at (put_mid 4096 511 rows ys) b ≡ 0
heads-clear rows ys k s e q b h =
    get_or-append_right (take 4096 rows) _ 4096 (4096 + b) 0 (simp (length-take) (omega (arith, s))) (omega arith)
    ∙ (ap (λ (i : ℕ). get_or (ys ++ drop 511 (drop 4096 rows)) i 0) back ∙ (get_or_append_left ys _ 0 b (rw (e, length-replicate) (omega (arith, q, h))) ∙ rw e (zeros-at k b)))
  where
    back : 4096 + b - 4096 ≡ b
    back = omega arith

pub decl-kept : {old new : List ℕ} (text : List ℕ) (j : ℕ) → RowsKept old new → j < 512 → decl_at text new j ≡ decl_at text old j
unfolding decl_at
decl-kept {old} {new} text j r l = go (r.kept (8 * j) (omega (arith, l))) (r.kept (8 * j + 1) (omega (arith, l))) (r.kept (8 * j + 2) (omega (arith, l))) (r.kept (8 * j + 3) (omega (arith, l)))
    (r.kept (8 * j + 4) (omega (arith, l))) (r.kept (8 * j + 5) (omega (arith, l))) (r.kept (8 * j + 6) (omega (arith, l))) (r.kept (8 * j + 7) (omega (arith, l)))
  where
    decl : ℕ → ℕ → ℕ → ℕ → ℕ → ℕ → ℕ → ℕ → Decl
    decl a b c d e f g h = record { class = a; value = b; name = word_of text 257 c d; second = option_of text (second_kind a) e f; third = option_of text 257 g h }

    go : {a b c d e f g h a₁ b₁ c₁ d₁ e₁ f₁ g₁ h₁ : ℕ} → a ≡ a₁ → b ≡ b₁ → c ≡ c₁ → d ≡ d₁ → e ≡ e₁ → f ≡ f₁ → g ≡ g₁ → h ≡ h₁ → decl a b c d e f g h ≡ decl a₁ b₁ c₁ d₁ e₁ f₁ g₁ h₁
    go p q r s t u v w = cc

held-from-kept : {old new : List ℕ} (text : List ℕ) (i n : ℕ) → RowsKept old new → i + n ≤ 512 → held_from text new i n ≡ held_from text old i n
unfolding held_from
held-from-kept text i zero r l = refl
held-from-kept text i (suc n) r l = both (decl-kept text i r (omega (arith, l))) (held-from-kept text (suc i) n r (omega (arith, l)))
  where
    both : {d e : Decl} {ds es : List Decl} → d ≡ e → ds ≡ es → d ∷ ds ≡ e ∷ es
    both p q = cc

pub held_kept : {old new : List ℕ} (text : List ℕ) (n : ℕ) → RowsKept old new → n ≤ 512 → held text new n ≡ held text old n
unfolding held
held_kept text n r l = held-from-kept text 0 n r (omega (arith, l))

-- the index, from its end

-- the words of the nodes above lo are in their chains
pub record IndexedFrom (key : ℕ) (text rows : List ℕ) (lo n : ℕ) : Type 0 where
  pub keyed : key_of rows ≡ key
  pub chain : ℕ → List ℕ
  pub nodes : Nodes rows lo chain
  pub names : (j : ℕ) → lo ≤ 2 * j → j < n → Among j (chain (bucket_of key (decl_at text rows j).class (decl_at text rows j).name.text))
  pub seconds : (j : ℕ) (w : Word) → lo ≤ 2 * j + 1 → j < n → (decl_at text rows j).second ≡ some w → Among j (chain (bucket_of key (decl_at text rows j).class w.text))

pub index-none : {key : ℕ} (text rows : List ℕ) (n : ℕ) → key_of rows ≡ key → ((b : ℕ) → b < 511 → head_at rows b ≡ 0) → IndexedFrom key text rows (2 * n) n
index-none text rows n d z = record {
  keyed = d;
  chain = λ b. [];
  nodes = record { follows = λ b l. chain_end (z b l); above = λ b l. inl (z b l) };
  names = λ j h l. absurd (omega (arith, h, l));
  seconds = λ j w h l e. absurd (omega (arith, h, l));
}

pub index-all : {key : ℕ} {text rows : List ℕ} {n : ℕ} → n ≤ 512 → IndexedFrom key text rows 0 n → Kept text rows n
index-all few f = record {
  few = few;
  indexed = record {
    chain = f.chain;
    follows = λ b l. f.nodes.follows b l;
    names = λ j l. rw f.keyed (f.names j (omega arith) l);
    seconds = λ j w l e. rw f.keyed (f.seconds j w (omega arith) l e);
  };
}

pub index_at : {key : ℕ} {text rows : List ℕ} {n i : ℕ} → IndexedFrom key text rows (2 * i) n → i ≡ 0 → IndexedFrom key text rows 0 n
index_at {key} {text} {rows} {n} f e = subst (λ (k : ℕ). IndexedFrom key text rows (2 * k) n) e f

pub kept_less : {text rows : List ℕ} {m n : ℕ} → m ≤ n → Kept text rows n → Kept text rows m
kept_less h k = record {
  few = omega (arith, h, k.few);
  indexed = record {
    chain = k.indexed.chain;
    follows = λ b l. k.indexed.follows b l;
    names = λ j l. k.indexed.names j (omega (arith, h, l));
    seconds = λ j w l e. k.indexed.seconds j w (omega (arith, h, l)) e;
  };
}

still : {j : ℕ} (chain : ℕ → List ℕ) (b k c : ℕ) → Among j (chain c) → Among j (pushed chain b k c)
still {j} chain b k c a = go (eqb c b)
  where
    go : (t : Bool) → Among j (if t then k / 2 ∷ chain c else chain c)
    go true = later a
    go false = a

own-chain : {j : ℕ} (chain : ℕ → List ℕ) (b k : ℕ) → j ≡ k / 2 → Among j (pushed chain b k b)
own-chain {j} chain b k e = rw (eq-eqb b b refl) (here e)

alike : (a b : ℕ) → (a ≡ b) ⊎ ((a ≡ b) → ⊥)
alike a b = go (eqb a b) refl
  where
    go : (t : Bool) → eqb a b ≡ t → (a ≡ b) ⊎ ((a ≡ b) → ⊥)
    go true e = inl (eqb-true a b e)
    go false e = inr (eqb-false a b e)

pub second-kept : (key : ℕ) (text rows : List ℕ) (i : ℕ) → RowsKept rows (push_second key text rows i)
unfolding push_second
second-kept key text rows i = go (decl_at text rows i).second
  where
    go : (o : Option Word) → RowsKept rows (elim o [ none ↦ rows | some w ↦ push_rows rows (bucket_of key (decl_at text rows i).class w.text) (2 * i + 1) ])
    go none = rows_same rows
    go (some w) = rows_pushed rows (bucket_of key (decl_at text rows i).class w.text) (2 * i + 1)

pub name-kept : (key : ℕ) (text rows : List ℕ) (i : ℕ) → RowsKept rows (push_name key text rows i)
unfolding push_name
name-kept key text rows i = rows_pushed rows (bucket_of key (decl_at text rows i).class (decl_at text rows i).name.text) (2 * i)

-- the code's ways to them

abbrev second_of : ℕ → List ℕ → List ℕ → ℕ → ℕ → ℕ → Bool → List ℕ
second_of key text rows i start len t = elim (if t then none else some (word_of text (second_kind (get_or rows (8 * i) 0)) start len)) [ none ↦ rows | some w ↦ push_rows rows (bucket_of key (get_or rows (8 * i) 0) w.text) (2 * i + 1) ]

pub second_none : (key : ℕ) (text rows : List ℕ) (i len : ℕ) → len ≡ get_or rows (8 * i + 5) 0 → len ≡ 0 → rows ≡ push_second key text rows i
unfolding push_second decl_at option_of
second_none key text rows i len e z = ap (λ (t : Bool). second_of key text rows i (get_or rows (8 * i + 4) 0) (get_or rows (8 * i + 5) 0) t) (sym (eq-eqb (get_or rows (8 * i + 5) 0) 0 (sym e ∙ z)))

pub second-some : (key : ℕ) (text rows new : List ℕ) (i class start len b : ℕ) → len ≡ get_or rows (8 * i + 5) 0 → (len ≡ 0 → ⊥) → class ≡ get_or rows (8 * i) 0 → start ≡ get_or rows (8 * i + 4) 0 → b ≡ bucket_of key class (part text start len)
    → new ≡ push_rows rows b (2 * i + 1) → new ≡ push_second key text rows i
unfolding push_second decl_at option_of
second-some key text rows new i class start len b e n d f g h = h ∙ (ap (λ (c : ℕ). push_rows rows c (2 * i + 1)) (g ∙ both d f e)
    ∙ ap (λ (t : Bool). second_of key text rows i (get_or rows (8 * i + 4) 0) (get_or rows (8 * i + 5) 0) t) (sym (ne_eqb (get_or rows (8 * i + 5) 0) 0 (λ z. n (e ∙ z)))))
  where
    both : {c x y d u v : ℕ} → c ≡ d → x ≡ u → y ≡ v → bucket_of key c (part text x y) ≡ bucket_of key d (part text u v)
    both o p q = cc

pub name-pushed : (key : ℕ) (text rows new : List ℕ) (i class start len b : ℕ) → class ≡ get_or rows (8 * i) 0 → start ≡ get_or rows (8 * i + 2) 0 → len ≡ get_or rows (8 * i + 3) 0 → b ≡ bucket_of key class (part text start len)
    → new ≡ push_rows rows b (2 * i) → new ≡ push_name key text rows i
unfolding push_name decl_at
name-pushed key text rows new i class start len b d f e g h = h ∙ ap (λ (c : ℕ). push_rows rows c (2 * i)) (g ∙ both d f e)
  where
    both : {c x y d u v : ℕ} → c ≡ d → x ≡ u → y ≡ v → bucket_of key c (part text x y) ≡ bucket_of key d (part text u v)
    both o p q = cc

-- one head more is cleared
pub clear-more : {old rows : List ℕ} (b : ℕ) → length old ≡ 6017 → b < 511 → RowsKept old rows → ((c : ℕ) → c < b → head_at rows c ≡ 0)
    → RowsKept old (set rows (4096 + b) 0) × ((c : ℕ) → c < b + 1 → head_at (set rows (4096 + b) 0) c ≡ 0)
clear-more {old} {rows} b size l r z = (rows-after r (rows-set rows (4096 + b) 0 (omega arith)), λ c m. one c m (alike c b))
  where
    one : (c : ℕ) → c < b + 1 → (c ≡ b) ⊎ ((c ≡ b) → ⊥) → head_at (set rows (4096 + b) 0) c ≡ 0
    one c m (inl e) = rw e (get_or-set_same rows (4096 + b) 0 0 (omega (arith, l, size, r.size)))
    one c m (inr d) = get_or-set_other rows (4096 + b) (4096 + c) 0 0 (λ e. d (omega (arith, e))) ∙ z c (apart m d)
      where
        apart : c < b + 1 → ((c ≡ b) → ⊥) → c < b
        apart x y = omega arith

-- the second word's node is put in
pub index-second : {key : ℕ} {text rows : List ℕ} {n : ℕ} (i : ℕ) → length rows ≡ 6017 → i < 512 → n ≤ 512 → IndexedFrom key text rows (2 * i + 2) n → IndexedFrom key text (push_second key text rows i) (2 * i + 1) n
unfolding push_second
index-second {key} {text} {rows} {n} i size l few f = go (decl_at text rows i).second refl
  where
    go : (o : Option Word) → (decl_at text rows i).second ≡ o → IndexedFrom key text (elim o [ none ↦ rows | some w ↦ push_rows rows (bucket_of key (decl_at text rows i).class w.text) (2 * i + 1) ]) (2 * i + 1) n
    go none e = record {
      keyed = f.keyed;
      chain = f.chain;
      nodes = record { follows = λ b h. f.nodes.follows b h; above = λ b h. wide (f.nodes.above b h) };
      names = λ j h m. f.names j (omega (arith, h)) m;
      seconds = λ j w h m q. old j w h m q (alike j i);
    }
      where
        wide : {p : ℕ} → (p ≡ 0) ⊎ (2 * i + 2 < p) → (p ≡ 0) ⊎ (2 * i + 1 < p)
        wide (inl z) = inl z
        wide (inr z) = inr (omega (arith, z))

        old : (j : ℕ) (w : Word) → 2 * i + 1 ≤ 2 * j + 1 → j < n → (decl_at text rows j).second ≡ some w → (j ≡ i) ⊎ ((j ≡ i) → ⊥) → Among j (f.chain (bucket_of key (decl_at text rows j).class w.text))
        old j w h m q (inl d) = absurd (none-some (sym e ∙ (ap (λ (k : ℕ). (decl_at text rows k).second) (sym d) ∙ q)))
          where
            none-some : ◌≡◌ {A = Option Word} none (some w) → ⊥
            none-some z = let y : ◌≡◌ {A = ℕ} 0 1 = cc in omega (arith, y)
        old j w h m q (inr d) = f.seconds j w (apart h d) m q
          where
            apart : 2 * i + 1 ≤ 2 * j + 1 → ((j ≡ i) → ⊥) → 2 * i + 2 ≤ 2 * j + 1
            apart x y = omega arith
    go (some v) e = record {
      keyed = key_pushed rows b (2 * i + 1) (bucket-low key (decl_at text rows i).class v.text) ∙ f.keyed;
      chain = pushed f.chain b (2 * i + 1);
      nodes = push-nodes b (2 * i + 1) f.nodes size (bucket-low key (decl_at text rows i).class v.text) (omega (arith, l)) (omega arith);
      names = λ j h m. rw (same-decl j m) (still f.chain b (2 * i + 1) (bucket_of key (decl_at text rows j).class (decl_at text rows j).name.text) (f.names j (omega (arith, h)) m));
      seconds = λ j w h m q. rw (same-decl j m) (one j w h m (ap (λ (d : Decl). d.second) (sym (same-decl j m)) ∙ q) (alike j i));
    }
      where
        b : ℕ
        b = bucket_of key (decl_at text rows i).class v.text

        same-decl : (j : ℕ) → j < n → decl_at text (push_rows rows b (2 * i + 1)) j ≡ decl_at text rows j
        same-decl j m = decl-kept text j (rows_pushed rows b (2 * i + 1)) (omega (arith, m, few))

        one : (j : ℕ) (w : Word) → 2 * i + 1 ≤ 2 * j + 1 → j < n → (decl_at text rows j).second ≡ some w → (j ≡ i) ⊎ ((j ≡ i) → ⊥)
            → Among j (pushed f.chain b (2 * i + 1) (bucket_of key (decl_at text rows j).class w.text))
        one j w h m q (inl d) = rw (d, sym (same_word (sym e ∙ (ap (λ (k : ℕ). (decl_at text rows k).second) (sym d) ∙ q)))) (own-chain f.chain b (2 * i + 1) (omega (arith, d)))
          where
            same_word : ◌≡◌ {A = Option Word} (some v) (some w) → v ≡ w
            same_word z = cc
        one j w h m q (inr d) = still f.chain b (2 * i + 1) (bucket_of key (decl_at text rows j).class w.text) (f.seconds j w (apart h d) m q)
          where
            apart : 2 * i + 1 ≤ 2 * j + 1 → ((j ≡ i) → ⊥) → 2 * i + 2 ≤ 2 * j + 1
            apart x y = omega arith

-- the name's node is put in
pub index-name : {key : ℕ} {text rows : List ℕ} {n : ℕ} (i : ℕ) → length rows ≡ 6017 → i < 512 → n ≤ 512 → IndexedFrom key text rows (2 * i + 1) n → IndexedFrom key text (push_name key text rows i) (2 * i) n
unfolding push_name
index-name {key} {text} {rows} {n} i size l few f = record {
  keyed = key_pushed rows b (2 * i) (bucket-low key (decl_at text rows i).class (decl_at text rows i).name.text) ∙ f.keyed;
  chain = pushed f.chain b (2 * i);
  nodes = push-nodes b (2 * i) f.nodes size (bucket-low key (decl_at text rows i).class (decl_at text rows i).name.text) (omega (arith, l)) (omega arith);
  names = λ j h m. rw (same-decl j m) (one j h m (alike j i));
  seconds = λ j w h m q. rw (same-decl j m) (still f.chain b (2 * i) (bucket_of key (decl_at text rows j).class w.text) (f.seconds j w (omega (arith, h)) m (ap (λ (d : Decl). d.second) (sym (same-decl j m)) ∙ q)));
}
  where
    b : ℕ
    b = bucket_of key (decl_at text rows i).class (decl_at text rows i).name.text

    same-decl : (j : ℕ) → j < n → decl_at text (push_rows rows b (2 * i)) j ≡ decl_at text rows j
    same-decl j m = decl-kept text j (rows_pushed rows b (2 * i)) (omega (arith, m, few))

    one : (j : ℕ) → 2 * i ≤ 2 * j → j < n → (j ≡ i) ⊎ ((j ≡ i) → ⊥) → Among j (pushed f.chain b (2 * i) (bucket_of key (decl_at text rows j).class (decl_at text rows j).name.text))
    one j h m (inl e) = rw e (own-chain f.chain b (2 * i) (omega arith))
    one j h m (inr d) = still f.chain b (2 * i) (bucket_of key (decl_at text rows j).class (decl_at text rows j).name.text) (f.names j (apart h d) m)
      where
        apart : 2 * i ≤ 2 * j → ((j ≡ i) → ⊥) → 2 * i + 1 ≤ 2 * j
        apart x y = omega arith

module _ (key : ℕ) (text : List ℕ) {rows mid : List ℕ} (k : ℕ) (p : mid ≡ push_second key text rows (k - 1)) where
  pub mid-kept : RowsKept rows mid
  mid-kept = rw p (second-kept key text rows (k - 1))

  pub row_kept : {new : List ℕ} → new ≡ push_name key text mid (k - 1) → RowsKept rows new
  row_kept q = rows-after mid-kept (rw q (name-kept key text mid (k - 1)))

  -- the nodes of the row before the k-th are put in
  pub index-more : {new : List ℕ} {n : ℕ} → new ≡ push_name key text mid (k - 1) → 0 < k → k ≤ n → n ≤ 512 → length rows ≡ 6017 → IndexedFrom key text rows (2 * k) n → IndexedFrom key text new (2 * (k - 1)) n
  index-more {new} {n} q low l few size f = rw q (index-name (k - 1) (mid-kept.size ∙ size) (omega (arith, l, few, low)) few (rw p (index-second (k - 1) size (omega (arith, l, few, low)) few (rw (sym even) f))))
    where
      even : 2 * k ≡ 2 * (k - 1) + 2
      even = omega (arith, low)

-- What stands behind the index

pub index_same : (rows : List ℕ) → IndexKept rows rows
index_same rows = record { size = refl; kept = λ j l. refl }

pub index-after : {a b c : List ℕ} → IndexKept a b → IndexKept b c → IndexKept a c
index-after f g = record { size = g.size ∙ f.size; kept = λ j l. g.kept j l ∙ f.kept j l }

-- a number behind the index is written
pub index-set : (rows : List ℕ) (i x : ℕ) → 5632 ≤ i → IndexKept rows (set rows i x)
index-set rows i x h = record { size = length-set rows i x; kept = λ j l. get_or-set_other rows i j x 0 (λ e. omega (arith, e, l, h)) }

pub rows-front : {old new : List ℕ} → IndexKept old new → RowsKept old new
rows-front f = record { size = f.size; kept = λ j l. f.kept j (omega (arith, l)) }

chain-front : {old new : List ℕ} {p : ℕ} {is : List ℕ} → IndexKept old new → Chain old p is → Chain new p is
chain-front f (chain_end e) = chain_end e
chain-front {old} {new} f (chain_node {k = k} {is = is} e u q c) = chain_node {k = k} {is = is} e u (rw d q) (rw d (chain-front f c))
  where
    d : link_at new k ≡ link_at old k
    d = f.kept (4608 + k) (omega (arith, u))

-- writing behind the index keeps rows and index
pub kept-behind : {text old new : List ℕ} {n : ℕ} → IndexKept old new → Kept text old n → Kept text new n
kept-behind {text} {old} {new} {n} f k = record {
  few = k.few;
  indexed = record {
    chain = k.indexed.chain;
    follows = λ b l. rw (f.kept (4096 + b) (omega (arith, l))) (chain-front f (k.indexed.follows b l));
    names = λ i l. rw (same-decl i l, same_key) (k.indexed.names i l);
    seconds = λ i w l e. rw (same-decl i l, same_key) (k.indexed.seconds i w l (ap (λ (d : Decl). d.second) (sym (same-decl i l)) ∙ e));
  };
}
  where
    same_key : key_of new ≡ key_of old
    same_key = f.kept 4607 (omega arith)

    same-decl : (i : ℕ) → i < n → decl_at text new i ≡ decl_at text old i
    same-decl i l = decl-kept text i (rows-front f) (omega (arith, l, k.few))

pub held-behind : {old new : List ℕ} (text : List ℕ) (n : ℕ) → IndexKept old new → n ≤ 512 → held text new n ≡ held text old n
held-behind text n f l = held_kept text n (rows-front f) l
