use Rattle.br_compile.proofs.Unrefused.{Laws, one_accepted, accepted_has_no_fault, accepted_or_fault, one_fault_of}
use Rattle.br_compile.proofs.laws.texts_are_accepted_or_at_fault.Goals as goal

pub returns-clause-one_program : goal.returns-clause-one_program
returns-clause-one_program c =
    one_accepted (record {
      one_reading = c.one_answer.ensures.one_reading;
      not_both = c.one_answer.ensures.not_both;
      sound = c.sound_programs_have_no_fault.ensures;
    })

pub returns-clause-never_both : goal.returns-clause-never_both
returns-clause-never_both c =
    accepted_has_no_fault (record {
      one_reading = c.one_answer.ensures.one_reading;
      not_both = c.one_answer.ensures.not_both;
      sound = c.sound_programs_have_no_fault.ensures;
    })

pub returns-clause-some : goal.returns-clause-some
returns-clause-some c =
    let laws : Laws = record {
      one_reading = c.one_answer.ensures.one_reading;
      not_both =
          c.one_answer.ensures.not_both;
      sound = c.sound_programs_have_no_fault.ensures;
    } in
    accepted_or_fault (record {
      laws = laws;
      read_or_fault = c.one_answer.ensures.some;
      one_text_fault = c.one_answer.ensures.one_fault;
      program_or_fault = c.one_meaning.ensures.some;
      sound_or_fault = c.programs_are_decided.ensures;
      one_name_fault = c.faults_are_unique.ensures;
    })

pub returns-clause-one_fault : goal.returns-clause-one_fault
returns-clause-one_fault c =
    let laws : Laws = record {
      one_reading = c.one_answer.ensures.one_reading;
      not_both =
          c.one_answer.ensures.not_both;
      sound = c.sound_programs_have_no_fault.ensures;
    } in
    one_fault_of (record {
      laws = laws;
      read_or_fault = c.one_answer.ensures.some;
      one_text_fault = c.one_answer.ensures.one_fault;
      program_or_fault = c.one_meaning.ensures.some;
      sound_or_fault = c.programs_are_decided.ensures;
      one_name_fault = c.faults_are_unique.ensures;
    })
