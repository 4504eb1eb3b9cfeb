-- Worked days and certificates.
pub mod TermExamples
pub mod FeedExamples
pub mod OrderExamples
pub mod TextExamples
pub mod CertificateExamples
pub mod CertificateLineExamples
