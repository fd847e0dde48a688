use Rattle.std.proofs.Common.{ℕ, List, ◌≡◌, subst, sym, inl, inr, refl, Err}
use Rattle.br_top.specs.declared.command.Command.{Command}
use Rattle.br_top.specs.declared.command.Command.TheVariants.{Compile}
use Rattle.br_top.specs.declared.trouble.Trouble.TheVariants.{Refused}
use Rattle.br_top.specs.Commands.{Adds, Refuses}
use Rattle.br_top.specs.Answers.{IsUnrefused}
use Rattle.br_top.specs.Refusals.{reason_line}
use Rattle.br_top.proofs.Lightbulb.{writes_good_image}
use Rattle.br_top.proofs.Words.{one_command}
use Rattle.br_top.proofs.Refused.{refused-reads, unrefused-reads}
use Rattle.br_top.proofs.top.tool.Goals as goal

-- the text that was written is the one that was made
pub returns-in-Ok-clause-done : goal.returns-in-Ok-clause-done
returns-in-Ok-clause-done g c is =
    elim c.answer_text.ensures.answered [
      | inl done ↦
          let made = c.in-Ok.ensures.made in
          let command = c.in-Some.command in
          let P : List ℕ → Type 0 = λ text. Adds command made.0 text in (
            c.deref.result.now,
            (command, made.0, c.in-Some.ensures, made.1, made.2, subst P (sym c.deref.ensures.value) made.3),
            done.1,
            c.in-Ok.ensures.sound,
            done.2,
            done.3,
          )
      | inr failed ↦ absurd (let no = failed.0 in cc)
    ]

-- and where the words are those of `compile`, it is the text of an image of what was read
pub returns-in-Ok-clause-lightbulb : goal.returns-in-Ok-clause-lightbulb
returns-in-Ok-clause-lightbulb g c is words =
    elim c.answer_text.ensures.answered [
      | inl done ↦
          let made = c.in-Ok.ensures.made in
          let same = one_command _ Compile c.in-Some.command words c.in-Some.ensures in
          writes_good_image c.firmware_images_stay_good.ensures c.in-Some.command same _ _ _ _ made.0 _ _
          made.1 made.3 c.deref.ensures.value done.1
      | inr failed ↦ absurd (let no = failed.0 in cc)
    ]

-- the text whose first part was written is the one that was made
pub returns-in-Ok-clause-write_fault : goal.returns-in-Ok-clause-write_fault
returns-in-Ok-clause-write_fault g c is =
    elim c.answer_text.ensures.answered [
      | inl done ↦ absurd (let no = done.0 in cc)
      | inr failed ↦
          let made = c.in-Ok.ensures.made in
          let command = c.in-Some.command in
          let P : List ℕ → Type 0 = λ text. Adds command made.0 text in
          inl (
            c.deref.result.now,
            (command, made.0, c.in-Some.ensures, made.1, made.2, subst P (sym c.deref.ensures.value) made.3),
            c.in-Ok.ensures.sound,
            failed.1,
            failed.2,
            failed.3,
          )
    ]

-- no text is made of what is refused
pub returns-in-Ok-clause-refusable : goal.returns-in-Ok-clause-refusable
returns-in-Ok-clause-refusable g c command bytes reason words known refused =
    let made = c.in-Ok.ensures.made in
    let same = one_command _ command c.in-Some.command words c.in-Some.ensures in
    let refused_here = subst (λ (k : Command). Refuses k bytes reason) same refused in
    elim (refused-reads c.in-Some.command _ _ made.0 bytes reason known made.1 refused_here made.2) [ ]

-- the line that was written is the refusal's
pub returns-in-Err-Refused-clause-refused : goal.returns-in-Err-Refused-clause-refused
returns-in-Err-Refused-clause-refused g c is =
    elim c.answer_refusal.ensures.answered [
      | inl told ↦
          let reason = c.in-Err-Refused.reason in
          let refused : c.made_text.result ≡ Err (Refused reason) = cc in (
            reason_line reason,
            (c.in-Some.command, reason, c.in-Some.ensures, c.made_text.ensures.refused reason refused, refl),
            told.1,
            refl,
          )
      | inr more ↦ elim more [
        | inl failed ↦ absurd (let no = failed.0 in cc)
        | inr wanting ↦ absurd (let no = wanting.0 in cc)
      ]
    ]

-- the line whose first part was written is the refusal's
pub returns-in-Err-Refused-clause-write_fault : goal.returns-in-Err-Refused-clause-write_fault
returns-in-Err-Refused-clause-write_fault g c is =
    elim c.answer_refusal.ensures.answered [
      | inl told ↦ absurd (let no = told.0 in cc)
      | inr more ↦ elim more [
        | inl failed ↦
            let reason = c.in-Err-Refused.reason in
            let refused : c.made_text.result ≡ Err (Refused reason) = cc in
            inr (
              reason_line reason,
              inl (c.in-Some.command, reason, c.in-Some.ensures, c.made_text.ensures.refused reason refused, refl),
              failed.1,
              failed.2,
              refl,
            )
        | inr wanting ↦ absurd (let no = wanting.0 in cc)
      ]
    ]

-- what nothing refuses was not refused
pub returns-in-Err-Refused-clause-acceptable : goal.returns-in-Err-Refused-clause-acceptable
returns-in-Err-Refused-clause-acceptable g c command bytes words known unrefused =
    let reason = c.in-Err-Refused.reason in
    let refused : c.made_text.result ≡ Err (Refused reason) = cc in
    let same = one_command _ command c.in-Some.command words c.in-Some.ensures in
    let unrefused_here = subst (λ (k : Command). IsUnrefused k bytes) same unrefused in
    elim (unrefused-reads c.in-Some.command _ _ bytes reason known unrefused_here
    (c.made_text.ensures.refused reason refused)) [ ]
