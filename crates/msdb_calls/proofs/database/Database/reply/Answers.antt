use Rattle.std.proofs.Common.{◌≡◌, ◌∙◌, ℕ, ap, codes, false, if◌then◌else◌, sym, subst, List, Option, None}
use Rattle.std.specs.Option.{option_copied, option_map_or}
use Rattle.std.specs.Prelude.{IfOk, not}
use Rattle.fp_model.specs.declared.calls.Call.{Call}
use Rattle.fp_model.specs.MsdbCalls.{dlet_reply, fld_reply, if_held, is_put_or_dropped, msdb_reply, refused, repl_reply}
use Rattle.fp_model.specs.State.{segment_of}
use Rattle.fp_model.specs.Workspace.{MsdbPosition, Workspace}
use Rattle.msdb_calls.specs.Calls.{is_changed}
use Rattle.msdb_calls.specs.Progress.{MsdbProgress, position_in, with_progress}
use Rattle.msdb_calls.specs.declared.reply.Reply.{Reply}
use Rattle.msdb_calls.specs.inside.Replies.{replied_by}
use Rattle.msdb_calls.proofs.database.Database.reply.Goals as goal
use Rattle.plain_laws.proofs.Results.{if_ok_then}

-- the key of the segment that is held in a database
abbrev held_in : MsdbProgress → ℕ → Option (List ℕ)
held_in work msdb = if (position_in work msdb).held then (position_in work msdb).key else None

pub returns-in-Fld-clause-reply : goal.returns-in-Fld-clause-reply
returns-in-Fld-clause-reply g c =
    let def = c.args.self.now.def.now in
    let n = c.args.self.now.number in
    let stands = g.L.SegmentLooks.stands c.args.looks.now in
    let shows = g.L.SegmentLooks.shows c.args.looks.now in
    let kept : Workspace → Workspace = with_progress c.args.work.now in
    let key = c.in-Fld.key in
    let changed = subst (λ (one : Call). (own : Workspace) → is_changed def n (kept own) one ≡ c.args.changed) c.in-Fld.is
    c.requires.changed in
    subst (λ (one : Call). IfOk c.fld.result (λ (reply : Reply). (own : Workspace)
    → replied_by def n reply (kept own) ≡ msdb_reply def n stands shows (kept own) one)) (sym c.in-Fld.is)
    (if_ok_then c.fld.result c.fld.ensures.reply (λ reply is own.
    is (kept own) (changed own)
    ∙ ap (λ b. if b then refused def n (kept own) (codes "XP")
    else fld_reply def n (kept own) key c.in-Fld.fsas (segment_of def shows key)) (sym (changed own))))

pub returns-in-Repl-clause-reply : goal.returns-in-Repl-clause-reply
returns-in-Repl-clause-reply g c =
    let def = c.args.self.now.def.now in
    let n = c.args.self.now.number in
    let stands = g.L.SegmentLooks.stands c.args.looks.now in
    let shows = g.L.SegmentLooks.shows c.args.looks.now in
    let kept : Workspace → Workspace = with_progress c.args.work.now in
    let held : option_copied c.held_key.result ≡ held_in c.args.work.now n =
    c.held_key.ensures ∙ ap (λ (p : MsdbPosition). if p.held then p.key else None) c.position-position.ensures in
    let changed = subst (λ (one : Call). (own : Workspace) → is_changed def n (kept own) one ≡ c.args.changed)
    c.in-Repl.is c.requires.changed in
    subst (λ (one : Call). IfOk c.repl.result (λ (reply : Reply). (own : Workspace)
    → replied_by def n reply (kept own) ≡ msdb_reply def n stands shows (kept own) one)) (sym c.in-Repl.is)
    (if_ok_then c.repl.result c.repl.ensures.reply (λ reply is own.
    is (kept own) (ap (λ (key : Option (List ℕ)). option_map_or (is_put_or_dropped def n (kept own)) key false) held
    ∙ changed own)
    ∙ ap (λ (key : Option (List ℕ)). if_held def n (kept own) (repl_reply def n (kept own) c.in-Repl.bytes) key) held))

pub returns-in-Isrt-clause-reply : goal.returns-in-Isrt-clause-reply
returns-in-Isrt-clause-reply g c =
    let def = c.args.self.now.def.now in
    let n = c.args.self.now.number in
    let stands = g.L.SegmentLooks.stands c.args.looks.now in
    let shows = g.L.SegmentLooks.shows c.args.looks.now in
    let kept : Workspace → Workspace = with_progress c.args.work.now in
    let changed = subst (λ (one : Call). (own : Workspace) → is_changed def n (kept own) one ≡ c.args.changed)
    c.in-Isrt.is c.requires.changed in
    subst (λ (one : Call). IfOk c.isrt.result (λ (reply : Reply). (own : Workspace)
    → replied_by def n reply (kept own) ≡ msdb_reply def n stands shows (kept own) one)) (sym c.in-Isrt.is)
    (if_ok_then c.isrt.result c.isrt.ensures.reply (λ reply is own. is (kept own) (changed own)))

pub returns-in-Dlet-clause-reply : goal.returns-in-Dlet-clause-reply
returns-in-Dlet-clause-reply g c =
    let def = c.args.self.now.def.now in
    let n = c.args.self.now.number in
    let stands = g.L.SegmentLooks.stands c.args.looks.now in
    let shows = g.L.SegmentLooks.shows c.args.looks.now in
    let kept : Workspace → Workspace = with_progress c.args.work.now in
    let held : option_copied c.held_key-in-Dlet.result ≡ held_in c.args.work.now n =
    c.held_key-in-Dlet.ensures ∙ ap (λ (p : MsdbPosition). if p.held then p.key else None) c.position-position.ensures in
    let changed = subst (λ (one : Call). (own : Workspace) → is_changed def n (kept own) one ≡ c.args.changed)
    c.in-Dlet.is c.requires.changed in
    subst (λ (one : Call). IfOk c.dlet.result (λ (reply : Reply). (own : Workspace)
    → replied_by def n reply (kept own) ≡ msdb_reply def n stands shows (kept own) one)) (sym c.in-Dlet.is)
    (if_ok_then c.dlet.result c.dlet.ensures.reply (λ reply is own.
    is (kept own) (ap (λ (key : Option (List ℕ)). option_map_or (is_put_or_dropped def n (kept own)) key false) held
    ∙ changed own)
    ∙ ap (λ (key : Option (List ℕ)). if not def.dynamic then refused def n (kept own) (codes "AM")
    else if_held def n (kept own) (dlet_reply def n (kept own)) key) held))
