-- Rows for the other rules that a part names, word by word.
use mathlib.Core.Bool.{Bool, true, false, ◌||◌, not, false≢true}
use mathlib.Core.List.{List, [], ◌∷◌, ◌++◌}
use mathlib.Core.Logic.{◌⊎◌, inl, inr}
use mathlib.Core.Option.{Option, none, some}
use mathlib.Core.Path.{◌≡◌, refl, sym, ap, ◌∙◌}
use Prim.Native.Nat.{ℕ, zero, suc, ◌+◌, ◌*◌, ◌-◌, ◌≤◌, ◌<◌}
use native.Mathlib.Omega.{arith}
use lib.Dec.{eqb, leb}
use lib.ListN.{length, get_or, drop, length-drop}
use lib.Seq.{drop-append-le, length-take-le}
use borrow.Author.Tests.{eq-eqb, leb-false, ne_eqb}
use Rattle.base.proofs.Laws.{lt-or-le}
use Rattle.std.specs.Prelude as code
use Rattle.std.specs.Prelude.{Result, Ok, Err, None, if◌then◌else◌}
use Rattle.base.specs.declared.Refusal.{Refusal}
use Rattle.base.specs.declared.Fault.TheVariants.{OverLimit}
use Rattle.declarer.specs.Faults.{fault_of, at_of, len_of}
use Rattle.base.specs.Common.{same}
use Rattle.base.specs.Tree.{done}
use Rattle.collector.proofs.Laws.{appended, decl-is}
use Rattle.collector.proofs.Rows.{appends-none, appends-then}
use Rattle.collector.specs.Collecting.{Appends, Puts, part_of}
use Rattle.collector.specs.declared.Row.{Row}
use Rattle.declarations.specs.Decls.{Decl, of_rule, rule_decls}
use Rattle.names.specs.Understand.{is_one}
use Rattle.parts.specs.Objects.{called_rules, fresh, past_names}
use Rattle.partnames.specs.Mentioning.{Adds, added, past, AddsAll, AddsFrom, leads, Mentions, names, names_from, OneName, no_name, known, full, one_more, rules_held, Seen, stops, texts_of}
use Rattle.partnames.proofs.Listing.{turned-off}
use Rattle.reader.specs.Answers.{Here}
use Rattle.scanner.specs.Next.{as_word}
use Rattle.scanner.specs.declared.WordAt.{WordAt}
use Rattle.symbols.proofs.Searches.{held-end, held-length, held_next}
use Rattle.symbols.specs.Rows.{decl_at, held, held_from, option_of, word_of}
use Rattle.symbols.specs.Search.{part}
use Rattle.words.specs.Words.{Word, words_at}

-- The search for a name

pub record Searched (text rows : List ℕ) (first n : ℕ) (w : List ℕ) (i : ℕ) : Type 0 where
  pub rest : is_one w (rules_held text rows first n) ≡ is_one w (rules_held text rows i n)

next_one : (text rows : List ℕ) (n i : ℕ) (w : List ℕ) → i < n
    → is_one w (rules_held text rows i n) ≡ (same w (part text (get_or rows (8 * i + 2) 0) (get_or rows (8 * i + 3) 0)) || is_one w (rules_held text rows (suc i) n))
unfolding texts_of is_one decl_at
next_one text rows n i w h = ap (λ (ds : List Decl). is_one w (texts_of ds)) (held_next text rows i n h)

module _ {text rows : List ℕ} {first n i : ℕ} {w : List ℕ} {a b : ℕ} {r : Bool} (s : Searched text rows first n w i) (h : i < n) (e : r ≡ same w (part text a b)) (f : a ≡ get_or rows (8 * i + 2) 0) (g : b ≡ get_or rows (8 * i + 3) 0) where
  found_here : is_one w (rules_held text rows first n) ≡ (r || is_one w (rules_held text rows (suc i) n))
  found_here =
      let z : same w (part text (get_or rows (8 * i + 2) 0) (get_or rows (8 * i + 3) 0)) ≡ r = rw (← f, ← g) (sym e) in
      s.rest ∙ next_one text rows n i w h ∙ ap (λ t. t || is_one w (rules_held text rows (suc i) n)) z

  pub search-hit : r ≡ true → true ≡ is_one w (rules_held text rows first n)
  search-hit z = sym (found_here ∙ rw z refl)

  pub search-on : (j : ℕ) → j ≡ i + 1 → r ≡ false → Searched text rows first n w j
  search-on j k z = let k' : j ≡ suc i = omega arith in record { rest = found_here ∙ rw (z, k') refl }

pub search-end : {text rows : List ℕ} {first n i : ℕ} {w : List ℕ} → Searched text rows first n w i → n ≤ i → false ≡ is_one w (rules_held text rows first n)
unfolding texts_of is_one
search-end {text} {rows} {n = n} {i = i} {w} s h = sym (s.rest ∙ ap (λ (ds : List Decl). is_one w (texts_of ds)) (held-end text rows i n h))

-- One word

unled : (led : Bool) (w : Word) → led ≡ false → names led w ≡ false
unfolding names
unled led w e = rw e refl

unnamed : (led : Bool) (w : Word) → (w.kind ≡ 257 → ⊥) → names led w ≡ false
unfolding names
unnamed true w e = ne_eqb w.kind 257 e
unnamed false w e = refl

is-named : (led : Bool) (w : Word) → led ≡ true → w.kind ≡ 257 → names led w ≡ true
unfolding names
is-named led w e k = rw (e, eq-eqb w.kind 257 k) refl

module _ (text rows : List ℕ) (first n : ℕ) (h : n ≤ 512) where
  -- no name
  nothing-new : {led : Bool} {w : Word} → names led w ≡ false → Mentions text rows rows first n led w (code.Some n)
  nothing-new e = record { low = omega arith; high = omega arith; one = λ seen s z. no_name e refl refl }

  pub not-led : {led : Bool} (w : Word) → not led ≡ true → Mentions text rows rows first n led w (code.Some n)
  not-led {led} w e = nothing-new (unled led w (turned-off led e))

  pub no-name-there : (led : Bool) (w : Word) → (w.kind ≡ 257 → ⊥) → Mentions text rows rows first n led w (code.Some n)
  no-name-there led w e = nothing-new (unnamed led w e)

  module _ (led : Bool) (w : WordAt) {b : Bool} (e : led ≡ true) (k : w.kind ≡ 257) (f : b ≡ is_one (part text w.start w.len) (rules_held text rows first n)) where
    its-name : names led (as_word text w) ≡ true
    its-name = is-named led (as_word text w) e k

    -- one of the rows
    pub name-known : b ≡ true → Mentions text rows rows first n led (as_word text w) (code.Some n)
    name-known g = record { low = omega arith; high = omega arith; one = λ seen s z. known its-name (s.same (part text w.start w.len) ∙ sym f ∙ g) refl refl }

    -- no room
    pub name-past : b ≡ false → n ≡ 512 → Mentions text rows rows first n led (as_word text w) code.None
    name-past g m = record { low = tt; high = tt; one = λ seen s z. full its-name (s.same (part text w.start w.len) ∙ sym f ∙ g) m refl }

    -- a row more
    abbrev its_row : Row
    its_row = record { class = 7; value = n - first; name = part_of w; second = None; third = None }

    pub name_new : {rows' : List ℕ} {r : ℕ} → b ≡ false → (n ≡ 512 → ⊥) → Puts rows rows' n r its_row → Mentions text rows rows' first n led (as_word text w) (code.Some r)
    unfolding rule_decls called_rules option_of
    name_new {rows'} {r} g m p = record {
      low = p.more;
      high = omega (arith, p.small);
      one = λ seen s z.
          let d : Decl = of_rule (n - first) (record { rule = as_word text w; gives = none; body = done; closing = as_word text w }) in
          let v : as_word text w ≡ word_of text 257 w.start w.len = ap (λ (i : ℕ). word_of text i w.start w.len) k in
          one_more its-name (s.same (part text w.start w.len) ∙ sym f ∙ g) refl p.small
          (appended text d p (decl-is text its_row d refl refl v refl refl) (record { size = z; room = omega (arith, m) }));
    }

-- All words

word_first : {text : List ℕ} {at : ℕ} {w : WordAt} → Here text at w → (rest : List Word) × (words_at text at ≡ as_word text w ∷ rest)
word_first {text} {at} {w} h = go (lt-or-le w.kind 2)
  where
    go : (w.kind < 2) ⊎ (2 ≤ w.kind) → (rest : List Word) × (words_at text at ≡ as_word text w ∷ rest)
    go (inl l) = ([], h.final l)
    go (inr l) = (words_at text w.next, h.more l)

-- the rules end here
none_named : {text : List ℕ} {at : ℕ} (led : Bool) {w : WordAt} → Here text at w → stops w.kind ≡ true → names_from led (words_at text at) ≡ []
unfolding names_from
none_named led h e = let x = word_first h in rw (x.1, e) refl

goes_on : (k : ℕ) → stops k ≡ false → 2 ≤ k
unfolding stops
goes_on k e = go (leb k 1) refl e
  where
    go : (t : Bool) → leb k 1 ≡ t → (t || eqb k 266) ≡ false → 2 ≤ k
    go true q z = absurd (false≢true (sym z))
    go false q z = let l = leb-false k 1 q in omega arith

-- one word more
next-named : {text : List ℕ} {at : ℕ} (led : Bool) {w : WordAt} → Here text at w → stops w.kind ≡ false
    → names_from led (words_at text at) ≡ (if names led (as_word text w) then as_word text w ∷ names_from (leads w.kind) (words_at text w.next) else names_from (leads w.kind) (words_at text w.next))
unfolding names_from
next-named led {w} h e = rw (h.more (goes_on w.kind e), e) refl

pub adds_none : {text rows : List ℕ} {first n i : ℕ} {led : Bool} {w : WordAt} {b : Bool} → n ≤ 512 → Here text i w → b ≡ stops w.kind → b ≡ true
    → AddsFrom text rows rows first n i led (Ok n)
unfolding fresh past_names called_rules rule_decls
adds_none {text} {rows} {first} {n} {i} {led} {w} l h e f = record {
  low = omega arith;
  high = l;
  adds = λ seen s z. rw (none_named led h (sym e ∙ f)) (added refl (appends-none text rows n));
}

-- the word is no name, or a name that is known
same_rows : {text rows rows₁ rows' : List ℕ} {first n m : ℕ} {r : Result ℕ Refusal} (ws : List Word) → m ≡ n → rows₁ ≡ rows → AddsAll text rows₁ rows' first m r ws → AddsAll text rows rows' first n r ws
same_rows ws e f a = rw e at (rw f at a)

same_seen : {text rows rows₁ : List ℕ} {first n m : ℕ} {seen : List (List ℕ)} → m ≡ n → rows₁ ≡ rows → Seen text rows first n seen → Seen text rows₁ first m seen
same_seen e f s = rw (e, f) s

-- the names of the rows with one row more
texts-more : (ds : List Decl) (d : Decl) (w : List ℕ) → is_one w (texts_of (ds ++ (d ∷ []))) ≡ (same w d.name.text || is_one w (texts_of ds))
unfolding texts_of is_one
texts-more [] d w = refl
texts-more (x ∷ ds) d w = ap (λ t. same w x.name.text || t) (texts-more ds d w) ∙ swapped (same w x.name.text) (same w d.name.text) (is_one w (texts_of ds))
  where
    swapped : (a b c : Bool) → (a || (b || c)) ≡ (b || (a || c))
    swapped true true c = refl
    swapped true false c = refl
    swapped false b c = refl

-- rows from `first` on are the last of all
drop-held : (text rows : List ℕ) (i k n : ℕ) → drop k (held_from text rows i n) ≡ held_from text rows (i + k) (n - k)
unfolding held_from
drop-held text rows i zero n = let e : i + 0 ≡ i = omega arith in let f : n - 0 ≡ n = omega arith in rw (e, f) refl
drop-held text rows i (suc k) zero = let f : 0 - suc k ≡ 0 = omega arith in rw f refl
drop-held text rows i (suc k) (suc n) = let e : suc i + k ≡ i + suc k = omega arith in let f : suc n - suc k ≡ n - k = omega arith in rw (f, ← e) (drop-held text rows (suc i) k n)

pub held-from : (text rows : List ℕ) (first n : ℕ) → held_from text rows first (n - first) ≡ drop first (held text rows n)
unfolding held
held-from text rows first n = let e : first ≡ 0 + first = omega arith in sym (drop-held text rows 0 first n ∙ ap (λ (i : ℕ). held_from text rows i (n - first)) (sym e))

pub held_size : (text rows : List ℕ) (n : ℕ) → length (held text rows n) ≡ n
unfolding held
held_size text rows n = held-length text rows 0 n

held_more : {text rows rows' : List ℕ} {n m : ℕ} {d : Decl} (first : ℕ) → first ≤ n → Appends text rows rows' n m (d ∷ []) → held_from text rows' first (m - first) ≡ held_from text rows first (n - first) ++ (d ∷ [])
held_more {text} {rows} {rows'} {n} {m} {d} first h a =
    held-from text rows' first m ∙ ap (λ (ds : List Decl). drop first ds) a.filled ∙ drop-append-le first (held text rows n) (d ∷ []) (omega (arith, held_size text rows n))
    ∙ ap (λ (ds : List Decl). ds ++ (d ∷ [])) (sym (held-from text rows first n))

seen_more : {text rows rows' : List ℕ} {n m : ℕ} {d : Decl} {seen : List (List ℕ)} (first : ℕ) → first ≤ n → Appends text rows rows' n m (d ∷ []) → Seen text rows first n seen → Seen text rows' first m (d.name.text ∷ seen)
unfolding is_one
seen_more {text} {rows} {rows'} {n} {m} {d} {seen} first h a s = record {
  same = λ w. ap (λ t. same w d.name.text || t) (s.same w) ∙ sym (ap (λ (ds : List Decl). is_one w (texts_of ds)) (held_more first h a) ∙ texts-more (held_from text rows first (n - first)) d w);
}

-- the word is the first of its name
abbrev row_of : ℕ → Word → Decl
row_of k w = of_rule k (record { rule = w; gives = none; body = done; closing = w })

first-row : {text rows rows₁ : List ℕ} {n m k : ℕ} (w : Word) → Appends text rows rows₁ n m (rule_decls k (called_rules (w ∷ []))) → Appends text rows rows₁ n m (row_of k w ∷ [])
unfolding rule_decls called_rules
first-row w a = a

rows_then : (k j : ℕ) (w : Word) (ws : List Word) → j ≡ suc k → (row_of k w ∷ []) ++ rule_decls j (called_rules ws) ≡ rule_decls k (called_rules (w ∷ ws))
unfolding rule_decls called_rules
rows_then k j w ws e = rw e refl

past-then : (n m : ℕ) (w : Word) (ws : List Word) → m ≡ n + 1 → m ≤ 512 → past_names (512 - n) (w ∷ ws) ≡ past_names (512 - m) ws
unfolding past_names
past-then n m w ws e l = let f : 512 - n ≡ suc (512 - m) = omega arith in rw f refl

one_then : {text rows rows₁ rows' : List ℕ} {first n m : ℕ} {r : Result ℕ Refusal} (w : Word) (ws : List Word) (o : Option Word) → first ≤ n → Appends text rows rows₁ n m (row_of (n - first) w ∷ [])
    → Adds text rows₁ rows' first m r ws o → Adds text rows rows' first n r (w ∷ ws) o
one_then {first = first} {n} {m} w ws none h a (added z b) =
    let c = a.counted in
    let j : m - first ≡ suc (n - first) = omega arith in
    added z (rw (rows_then (n - first) (m - first) w ws j) at (appends-then a b))
one_then w ws (some v) h a (past z i l) = past z i l

-- the words with one word more
fresh-none : (seen : List (List ℕ)) (t : Bool) (w : Word) (rest : List Word) → t ≡ false → fresh seen (if t then w ∷ rest else rest) ≡ fresh seen rest
fresh-none seen t w rest e = rw e refl

fresh-known : (seen : List (List ℕ)) (t : Bool) (w : Word) (rest : List Word) → t ≡ true → is_one w.text seen ≡ true → fresh seen (if t then w ∷ rest else rest) ≡ fresh seen rest
unfolding fresh
fresh-known seen t w rest e k = rw (e, k) refl

fresh-first : (seen : List (List ℕ)) (t : Bool) (w : Word) (rest : List Word) → t ≡ true → is_one w.text seen ≡ false → fresh seen (if t then w ∷ rest else rest) ≡ w ∷ fresh (w.text ∷ seen) rest
unfolding fresh
fresh-first seen t w rest e k = rw (e, k) refl

-- the count that is there
code-some : {a b : ℕ} → ◌≡◌ {A = code.Option ℕ} (code.Some a) (code.Some b) → a ≡ b
code-some e = cc

-- from fewer rows on
raised : {n m : ℕ} (r : Result ℕ Refusal) → n ≤ m → code.IfOk r (λ k. m ≤ k) → code.IfOk r (λ k. n ≤ k)
raised (Ok k) h l = omega (arith, h, l)
raised (Err x) h l = tt

adds-step : {text rows rows₁ rows' : List ℕ} {first n m : ℕ} {led : Bool} {w : Word} {r : Result ℕ Refusal} {seen : List (List ℕ)} (rest : List Word) → first ≤ n → m ≤ 512 → Seen text rows first n seen
    → OneName text rows rows₁ first n seen led w (code.Some m) → ((seen' : List (List ℕ)) → Seen text rows₁ first m seen' → AddsAll text rows₁ rows' first m r (fresh seen' rest))
    → AddsAll text rows rows' first n r (fresh seen (if names led w then w ∷ rest else rest))
adds-step {led = led} {w} {seen = seen} rest l h s (no_name e f g) u = let f' = code-some f in rw (fresh-none seen (names led w) w rest e) (same_rows (fresh seen rest) f' g (u seen (same_seen f' g s)))
adds-step {led = led} {w} {seen = seen} rest l h s (known e k f g) u = let f' = code-some f in rw (fresh-known seen (names led w) w rest e k) (same_rows (fresh seen rest) f' g (u seen (same_seen f' g s)))
adds-step rest l h s (full e k f g) u = let z : ◌≡◌ {A = code.Option ℕ} (code.Some _) code.None = g in cc
adds-step {text} {rows} {rows₁} {first = first} {n} {m} {led} {w} {seen = seen} rest l h s (one_more e k q i b) u =
    let a : Appends text rows rows₁ n m (rule_decls (n - first) (called_rules (w ∷ []))) = rw (← code-some q) at b in
    let a' = first-row w a in
    let c = a'.counted in
    let ws = fresh (w.text ∷ seen) rest in
    rw (fresh-first seen (names led w) w rest e k, past-then n m w ws (omega arith) h) (one_then w ws (past_names (512 - m) ws) l a' (u (w.text ∷ seen) (seen_more first l a' s)))

pub adds_on : {text rows rows₁ rows' : List ℕ} {first n i m : ℕ} {led t : Bool} {w : WordAt} {b : Bool} {r : Result ℕ Refusal} → first ≤ n → m ≤ 512 → length rows₁ ≡ length rows → Here text i w → b ≡ stops w.kind → b ≡ false
    → Mentions text rows rows₁ first n led (as_word text w) (code.Some m) → t ≡ leads w.kind → AddsFrom text rows₁ rows' first m w.next t r → AddsFrom text rows rows' first n i led r
adds_on {text} {led = led} {w = w} {r = r} l k y h e f u d v = record {
  low = raised r u.low v.low;
  high = v.high;
  adds = λ seen s z.
      rw (next-named led h (sym e ∙ f))
      (adds-step (names_from (leads w.kind) (words_at text w.next)) l k s (u.one seen s z) (λ seen' s'. rw d at (v.adds seen' s' (y ∙ z))));
}

full-step : {text rows rows₁ rows' : List ℕ} {first n : ℕ} {led : Bool} {w : Word} {r : Result ℕ Refusal} {seen : List (List ℕ)} (rest : List Word) → OneName text rows rows₁ first n seen led w code.None
    → fault_of r ≡ 9 → at_of r ≡ w.start → len_of r ≡ length w.text → AddsAll text rows rows' first n r (fresh seen (if names led w then w ∷ rest else rest))
unfolding past_names
full-step rest (no_name e f g) x y z = let q : ◌≡◌ {A = code.Option ℕ} code.None (code.Some _) = f in cc
full-step rest (known e k f g) x y z = let q : ◌≡◌ {A = code.Option ℕ} code.None (code.Some _) = f in cc
full-step {n = n} {led = led} {w} {seen = seen} rest (full e k f g) x y z =
    let o : 512 - n ≡ 0 = omega arith in
    rw (fresh-first seen (names led w) w rest e k, o) (past x y z)
full-step rest (one_more e k f i a) x y z = let q : ◌≡◌ {A = code.Option ℕ} code.None (code.Some _) = f in cc

pub adds-past : {text rows rows₁ : List ℕ} {first n i : ℕ} {led : Bool} {w : WordAt} {b : Bool} → n ≤ 512 → Here text i w → b ≡ stops w.kind → b ≡ false
    → Mentions text rows rows₁ first n led (as_word text w) code.None → AddsFrom text rows rows₁ first n i led (Err (record { fault = OverLimit; at = w.start; len = w.len }))
adds-past {text} {led = led} {w} l h e f u = record {
  low = tt;
  high = tt;
  adds = λ seen s z.
      rw (next-named led h (sym e ∙ f))
      (full-step (names_from (leads w.kind) (words_at text w.next)) (u.one seen s z) refl refl
      (sym (length-take-le w.len (drop w.start text) (omega (arith, h.inside, length-drop w.start text)))));
}

pub gets-on : {text : List ℕ} {i : ℕ} {w : WordAt} {b : Bool} → Here text i w → b ≡ stops w.kind → b ≡ false → i < w.next
gets-on {w = w} h e f = h.moves (goes_on w.kind (sym e ∙ f))
