-- What a report says.
use Rattle.rice_stream.specs.declared.outcome.Report.{Report}
use Rattle.rice_calls.specs.declared.report.RiceReport.{RiceReport}

-- the report of coding that it holds
abbrev pub report_of : RiceReport → Report
report_of r = record { samples = r.samples; bits = r.bits; steps = r.steps }

-- nothing was done
abbrev pub empty_report : RiceReport
empty_report = record { samples = 0; bits = 0; steps = 0; written = 0; place = 0 }
