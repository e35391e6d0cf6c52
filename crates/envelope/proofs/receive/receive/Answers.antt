use Rattle.std.proofs.Common.{Ok, Err}
use Rattle.std.proofs.lemmas.Result.{err_from_is_err_and}
use Rattle.modes.specs.Keys.{key_of}
use Rattle.envelope.specs.Views.{fields}
use Rattle.envelope.proofs.Receivings.{key_refused, parse_refused, parts_opened}
use Rattle.envelope.proofs.receive.receive.Goals as goal

pub returns-in_err-new : goal.returns-in_err-new
returns-in_err-new g c =
    let p = err_from_is_err_and c.from_residual.result c.from_residual.ensures.1 in
    let r = key_refused g.K.Permutation.forth g.K.Permutation.back c.args.key.now c.args.bytes.now (key_of c.args.key.now) _ c.in_err-new.ensures in
    rw (p.1, p.2) (record { value = r.0; exactly = r.1; opens = r.2 })

pub returns-in_err-parts : goal.returns-in_err-parts
returns-in_err-parts g c =
    let p = err_from_is_err_and c.from_residual-in_err-parts.result c.from_residual-in_err-parts.ensures.1 in
    let r =
    parse_refused g.K.Permutation.forth g.K.Permutation.back c.args.key.now c.args.bytes.now (key_of c.args.key.now) _ c.in_ok-new.ensures _
    c.in_err-parts.ensures.value in
    rw (p.1, p.2) (record { value = r.0; exactly = r.1; opens = r.2 })

pub returns-in_err-sheet : goal.returns-in_err-sheet
returns-in_err-sheet g c =
    let p = err_from_is_err_and c.from_residual-in_err-sheet.result c.from_residual-in_err-sheet.ensures.1 in
    let r =
    parts_opened g.K.Permutation.forth g.K.Permutation.back c.args.key.now c.args.bytes.now (fields c.in_ok-parts.parts) c.new-holder.result.bytes.now
    (Err c.in_err-sheet.field-0.0) c.in_ok-parts.ensures.value c.new-holder.ensures c.in_err-sheet.ensures.value c.in_err-sheet.ensures.exactly in
    rw (p.1, p.2) (record { value = r.0; exactly = r.1; opens = r.2 })

pub returns : goal.returns
returns g c =
    let r =
    parts_opened g.K.Permutation.forth g.K.Permutation.back c.args.key.now c.args.bytes.now (fields c.in_ok-parts.parts) c.new-holder.result.bytes.now
    (Ok c.in_ok-sheet.sheet.state) c.in_ok-parts.ensures.value c.new-holder.ensures c.in_ok-sheet.ensures.value c.in_ok-sheet.ensures.exactly in
    record { value = r.0; exactly = r.1; opens = r.2 }
