use Rattle.std.proofs.Common.{◌≡◌, sym, ◌∙◌, refl, true, false, is_some}
use Rattle.vestmortar.specs.Options.{value_of, is_among}
use Rattle.vestmortar.proofs.Flags.{flag_at, is_refused, among, refused, passed}
use Rattle.vestmortar.proofs.options.Options.only.Goals.{else-is_given-via-then-is_given+else-not-contains, else-is_given-via-else-is_given}
use Rattle.vestmortar.proofs.options.Options.only.Goals as goal

pub returns-then-not-contains : goal.returns-then-not-contains
returns-then-not-contains c =
    let taken = c.args.taken.now in
    let o = c.args.self.now in
    let i = c.loop-flag.flag-index in
    let given : is_some (value_of (flag_at i) o) ≡ true = sym c.is_given.ensures ∙ c.if-is_given.true in
    let absent : is_among taken (flag_at i) ≡ false = sym (among taken (flag_at i)) ∙ sym c.contains.ensures.value ∙ c.if-not-contains.true in
    refused taken o i c.loop-flag-test.true (rw (given, absent) refl) c.loop-flag.invariant

pub loop-flag-preserved : goal.loop-flag-preserved
loop-flag-preserved c =
    let taken = c.args.taken.now in
    let o = c.args.self.now in
    let i = c.loop-flag.flag-index in
    let kept : is_refused taken o (flag_at i) ≡ false =
    elim c.else-is_given.branch [
      | else-is_given-via-then-is_given+else-not-contains w ↦
          let given : is_some (value_of (flag_at i) o) ≡ true = sym c.is_given.ensures ∙ w.if-is_given.true in
          let present : is_among taken (flag_at i) ≡ true = sym (among taken (flag_at i)) ∙ sym w.contains.ensures.value ∙ w.if-not-contains.false in
          rw (given, present) refl
      | else-is_given-via-else-is_given w ↦
          let given : is_some (value_of (flag_at i) o) ≡ false = sym c.is_given.ensures ∙ w.if-is_given.false in
          rw given refl
    ] in
    passed taken o i c.loop-flag-test.true kept c.loop-flag.invariant
