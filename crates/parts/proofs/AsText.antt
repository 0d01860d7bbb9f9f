-- Linking and the processor's answer for one text with the same words.
use mathlib.Core.Bool.{Bool, true, false, ◌&&◌}
use mathlib.Core.List.{List}
use mathlib.Core.Path.{◌≡◌, refl, sym, ap, ◌∙◌}
use Prim.Native.Nat.{ℕ, ◌≤◌}
use native.Mathlib.Omega.{arith}
use lib.Dec.{leb}
use lib.ListN.{length}
use borrow.Author.Tests.{le-leb}
use Rattle.base.specs.Bools.{both}
use Rattle.figure.specs.Told.{Told, told_if, told_for, figure_of}
use Rattle.finishing.specs.Test.{finishing}
use Rattle.names.specs.Known.{Checked, good, wrong}
use Rattle.names.specs.Understand.{understand}
use Rattle.parts.proofs.Blank.{same-meaning}
use Rattle.parts.proofs.Linking.{very-words, one-text-links}
use Rattle.parts.specs.Link.{linked, in_text, as_one}
use Rattle.parts.specs.Promise.{one_text, ReadsAs, VeryText, TextLinks}
use Rattle.processor.specs.Process.{part_of, Understood, meaning, faulty, checked, read_in, understood, Answer, accepted, refused, answer_for, process}
use Rattle.program.proofs.Lengths.{length-table}
use Rattle.program.specs.Program as means
use Rattle.program.specs.Table.{size_rules, table}
use Rattle.syntax.specs.Parse.{end_of}
use Rattle.syntax.specs.Texts.{Common}
use Rattle.syntax.specs.Written.{Rule}

text-means : (text : List ℕ) (c : Common) (rss : List (List Rule)) (r : ReadsAs text c rss) (prog : List means.Rule) → understand (one_text c rss) ≡ good prog → understood text ≡ meaning prog
unfolding understood read_in checked
text-means text c rss r prog e =
    let h = same-meaning (one_text c rss) r.tree (sym r.same_words) prog e in
    rw (r.reads, h)

accepts-text : (text : List ℕ) (room : ℕ) (prog : List means.Rule) (words : List ℕ) (verdict : Bool) → words ≡ table prog → verdict ≡ finishing prog → length words ≤ room → length words ≤ 4096
    → answer_for text room (meaning prog) ≡ accepted words verdict
unfolding answer_for
accepts-text text room prog words verdict a b c d =
    let size = length-table prog in
    let same_length : length words ≡ length (table prog) = ap (λ (x : List ℕ). length x) a in
    let t = both (leb (size_rules prog) room) (leb (size_rules prog) 4096) (le-leb (size_rules prog) room (omega (arith, size, same_length, c))) (le-leb (size_rules prog) 4096 (omega (arith, size, same_length, d))) in
    rw t (λ i. accepted (sym a i) (sym b i))

pub very-text : VeryText
unfolding process figure_of told_for
very-text common_text c n last_text rss os room words verdict told e h l text r =
    let w = very-words common_text c n last_text rss os room words verdict told e h l in
    let prog = w.prog in
    let m = text-means text c rss r prog w.means in
    let a = accepts-text text room prog words verdict w.words_are w.verdict_is w.fits w.within_4096 in
    (ap (answer_for text room) m ∙ a, ap (λ (u : Understood). told_for (answer_for text room u) u) m ∙ ap (λ (x : Answer). told_if x prog) a ∙ sym w.figure_is)

-- what the text means, where the processor accepts it
means-of : (text : List ℕ) (room : ℕ) (words : List ℕ) (verdict : Bool) → process text room ≡ accepted words verdict → (prog : List means.Rule) × (understood text ≡ meaning prog) × (answer_for text room (meaning prog) ≡ accepted words verdict)
unfolding process answer_for
means-of text room words verdict e = go (understood text) refl
  where
    go : (u : Understood) → understood text ≡ u → (prog : List means.Rule) × (understood text ≡ meaning prog) × (answer_for text room (meaning prog) ≡ accepted words verdict)
    go (meaning prog) d = (prog, d, rw d at e)
    go (faulty n at) d = let f : refused n at ≡ accepted words verdict = rw d at e in let z : ◌≡◌ {A = ℕ} 0 1 = cc in absurd (omega arith)

-- the same answer wherever 20 would be shown
same_answer : (text last_text : List ℕ) (room : ℕ) (prog : List means.Rule) (words : List ℕ) (verdict : Bool) → answer_for text room (meaning prog) ≡ accepted words verdict → answer_for last_text room (meaning prog) ≡ accepted words verdict
unfolding answer_for
same_answer text last_text room prog words verdict e = go (leb (size_rules prog) room && leb (size_rules prog) 4096) refl
  where
    go : (t : Bool) → (leb (size_rules prog) room && leb (size_rules prog) 4096) ≡ t → answer_for last_text room (meaning prog) ≡ accepted words verdict
    go true d = rw (answer_for, d) (rw (answer_for, d) at e)
    go false d = let f : refused 20 (part_of (end_of text)) ≡ accepted words verdict = rw (answer_for, d) at e in let z : ◌≡◌ {A = ℕ} 0 1 = cc in absurd (omega arith)

understood-is : (text : List ℕ) (c : Common) (rss : List (List Rule)) (r : ReadsAs text c rss) (prog : List means.Rule) → understood text ≡ meaning prog → understand (one_text c rss) ≡ good prog
unfolding understood read_in checked
understood-is text c rss r prog e = same-meaning r.tree (one_text c rss) r.same_words prog (go (understand r.tree) refl (rw r.reads at e))
  where
    go : (m : Checked (List means.Rule)) → understand r.tree ≡ m → checked m ≡ meaning prog → understand r.tree ≡ good prog
    go (good x) d f = let y : x ≡ prog = cc in d ∙ ap good y
    go (wrong n w) d f = let z : ◌≡◌ {A = ℕ} 0 1 = cc in absurd (omega arith)

pub text-links : TextLinks
unfolding as_one in_text figure_of told_for process
text-links c n rss h text r room words verdict e =
    let x = means-of text room words verdict e in
    let prog = x.0 in
    let l = one-text-links c n rss prog h (understood-is text c rss r prog x.1) in
    let told : figure_of text room ≡ told_if (accepted words verdict) prog = ap (λ (u : Understood). told_for (answer_for text room u) u) x.1 ∙ ap (λ (a : Answer). told_if a prog) x.2 in
    record {
      objects = l.objects;
      parts = l.parts;
      links = λ common_text last_text.
          l.links common_text last_text room
          ∙ ap (λ (a : Answer). in_text (length rss) a (told_if a prog)) (same_answer text last_text room prog words verdict x.2)
          ∙ ap (λ (t : Told). linked words verdict t) (sym told);
    }
