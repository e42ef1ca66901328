mod ReportLemmas
mod UpgradedLemmas
