-- `linkchecks::unlike_rule` meets its contract.
use Rattle.linkchecks.specs.Row.{row_from}
use Rattle.linkchecks.proofs.Finding.{shows-some, stands-rule, stands-name, stands-text, unlike-here, unlike-calls}
use Rattle.linkchecks.proofs.unlike_rule.Goals as goal

pub returns-then-not-is_alike : goal.returns-then-not-is_alike
returns-then-not-is_alike c = λ hs vs x row u v s. let r = stands-rule s in let k = stands-name s in unlike-here _ (row_from 1 vs) hs x _ (stands-text s) _ (c.is_alike.ensures hs x.rule r.0 u r.1) _ c.if-not-is_alike.true (shows-some _ _ (c.found_at.ensures x.rule.name k.0 k.1))

pub returns : goal.returns
returns c = λ hs vs x row u v s. let r = stands-rule s in unlike-calls _ (row_from 1 vs) hs x _ (stands-text s) _ (c.is_alike.ensures hs x.rule r.0 u r.1) _ c.if-not-is_alike.false (c.open_call.ensures vs x.rule r.0 v r.1)
