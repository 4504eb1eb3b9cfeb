-- What the worked days and certificates come to, computed.
pub mod TermExampleProofs
pub mod FeedExampleProofs
pub mod OrderExamples
pub mod TextExampleProofs
pub mod CertificateExampleProofs
pub mod CertificateLineExampleProofs
